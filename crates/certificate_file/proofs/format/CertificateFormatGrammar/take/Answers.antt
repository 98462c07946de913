use Rattle.std.proofs.Common.{◌≡◌, true, false, ◌+◌, ◌≤◌, ◌<◌, [], ◌∷◌, ◌++◌, ℤ, rules, length, map, sym, ◌∙◌, ap, subst, arith, to_z, of_z}
use Rattle.std.specs.Prelude.{is_some, vec_len, vec_capacity, unsigned_abs}
use Rattle.std.specs.Int.{w128}
use Rattle.reading.specs.Word.{heard_token}
use Rattle.certificate_file.specs.declared.held.Held.{Held}
use Rattle.certificate_file.specs.Fault.{IsRow}
use Rattle.certificate_file.specs.Voltage.{limit}
use Rattle.certificate_file.specs.inside.Held.{value_at}
use Rattle.certificate_file.proofs.Rows.{held_row, held_other, found_row, found_none, row_room, row_says, high_within, low_within}
use Rattle.certificate_file.proofs.Voltages.{kept_128}
use Rattle.certificate_file.proofs.format.CertificateFormatGrammar.take.Goals as goal
use Rattle.certificate_file.proofs.format.CertificateFormatGrammar.take.Goals.{then-is_some+in_ok-take_row, else-is_some}

-- A voltage that is handed on is the one that is pushed.
handed : (v w : ℤ) → unsigned_abs v ≤ limit → w ≡ v → to_z w128 (of_z w128 w) ≡ v
handed v w within same = ap (λ z. to_z w128 (of_z w128 z)) same ∙ kept_128 v within

not_ok : false ≡ true → ⊥
not_ok h = cc

pub returns-in_err-take_row-clause-never_fails : goal.returns-in_err-take_row-clause-never_fails
returns-in_err-take_row-clause-never_fails c = λ lines h.
    let names = c.args.self.now.names.now in
    let said = c.args.said.now in
    let row = found_row (IsRow (length names) said.lines) c.row_name.result c.row_name.ensures.row (let e : is_some c.row_name.result ≡ true = search rules in e) in
    let room = row_room names lines said h (subst (λ z. IsRow (length names) z) h.count row) in
    let high : vec_len said.high < vec_capacity said.high = omega (arith, room.0, said.high.ok.0) in
    let low : vec_len said.low < vec_capacity said.low = omega (arith, room.1, said.low.ok.0) in
    absurd (not_ok (c.in_err-take_row.ensures.succeeds high low))

pub returns-clause-takes : goal.returns-clause-takes
returns-clause-takes c = λ lines few h taken heard.
    let names = c.args.self.now.names.now in
    let said = c.args.said.now in
    let unit = c.args.unit.now in
    elim c.if-is_some.branch [
      | then-is_some+in_ok-take_row w ↦
          let found = found_row (IsRow (length names) said.lines) c.row_name.result c.row_name.ensures.row (let e : is_some c.row_name.result ≡ true = search rules in e) in
          let row = subst (λ z. IsRow (length names) z) h.count found in
          let says = row_says names lines unit taken row heard in
          let line = map heard_token unit in
          let high = value_at unit 1 in
          let low = value_at unit 2 in
          let high_in = high_within line high says.0 in
          let low_in = low_within line low says.1 in
          let t = w.in_ok-take_row.ensures in
          let is = sym w.said-is in
          let lines_is = ap (λ (z : Held). z.lines) w.said-is ∙ t.lines in
          let count : c.saturating_add-said.result ≡ length lines + 1 = omega (arith, few, h.count, lines_is, c.saturating_add-said.ensures) in
          held_row names lines line said _ high low h taken row says.0 says.1 count
          (subst (λ (z : Held). z.high.items ≡ said.high.items ++ high ∷ []) is (t.high ∙ ap (λ z. said.high.items ++ z ∷ []) (handed high w.value_at.result high_in (w.value_at.ensures high_in))))
          (subst (λ (z : Held). z.low.items ≡ said.low.items ++ low ∷ []) is (t.low ∙ ap (λ z. said.low.items ++ z ∷ []) (handed low w.value_at-then-is_some.result low_in (w.value_at-then-is_some.ensures low_in))))
          (subst (λ (z : Held). vec_capacity said.high ≤ vec_capacity z.high) is t.high_room)
          (subst (λ (z : Held). vec_capacity said.low ≤ vec_capacity z.low) is t.low_room)
      | else-is_some w ↦
          let none = found_none (IsRow (length names) said.lines) c.row_name.result c.row_name.ensures.none (let e : is_some c.row_name.result ≡ false = search rules in e) in
          let lines_is = ap (λ (z : Held). z.lines) w.said-is in
          let count : c.saturating_add-said.result ≡ length lines + 1 = omega (arith, few, h.count, lines_is, c.saturating_add-said.ensures) in
          held_other names lines (map heard_token unit) said _ h (λ row. none (subst (λ z. IsRow (length names) z) (sym h.count) row)) count
          (ap (λ (z : Held). z.high) w.said-is) (ap (λ (z : Held). z.low) w.said-is)
    ]
