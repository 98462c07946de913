use Rattle.std.proofs.Common.{◌≡◌, ◌↔◌, ℕ, List, IsTrue, Contains, sym, ◌∙◌, ap, subst}
use Rattle.outside.specs.declared.calls.Tally.{Tally}
use Rattle.outside.specs.Calls.{CallsInMemory, made_on}
use Rattle.outside.specs.Counts.{raised}
use Rattle.outside.proofs.Tallies.{tally_read}
use Rattle.outside.proofs.calls.Calls.fails_next.Goals as goal

pub returns : goal.returns
returns c =
    let listed : c.deref.result.now ≡ c.args.self.now.failing = c.deref.ensures.value ∙ ap (λ (calls : CallsInMemory). calls.failing) c.self.view_is in
    let tally = tally_read c.self.inside.failing.items c.self.inside.tallies.items c.self.inside.faults c.args.self.now c.self.view_is c.args.name.now c.args.place c.index.result.now c.requires c.index.ensures in
    let number : c.one_more.result ≡ raised (made_on c.args.self.now c.args.name.now) = c.one_more.ensures.raised ∙ ap (λ (t : Tally). raised t.made) (sym tally) in
    subst (λ (l : List (List ℕ × ℕ)). IsTrue c.is_listed.result ↔ Contains l (c.args.name.now, raised (made_on c.args.self.now c.args.name.now))) listed
    (subst (λ n. IsTrue c.is_listed.result ↔ Contains c.deref.result.now (c.args.name.now, n)) number c.is_listed.ensures)
