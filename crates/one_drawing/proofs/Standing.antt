-- The commands of a script that is read stand at different places.
use Rattle.std.proofs.Common.{◌≡◌, ◌≢◌, ◌⊎◌, inl, inr, ℕ, ◌+◌, ◌==◌, ◌<◌, ◌≤◌, ◌||◌, Bool, true, false, cond, Option, Some, None, Ok, List, [], ◌∷◌, ◌++◌, map, All, AllPairs, Contains, length, get_or, subst, refl, sym, ap, ◌∙◌, arith}
use Rattle.std.proofs.lemmas.Bool.{false≢true}
use Rattle.std.proofs.lemmas.List.{append-nil}
use Rattle.std.proofs.lemmas.Bool.Decides.{nat_tests}
use Rattle.std.proofs.lemmas.List.Elements.{All-append, All-nil, All-cons, All-contains, Contains-push_cases}
use Rattle.std.proofs.lemmas.List.Quantifiers.{all_pairs_push}
use Rattle.outside.specs.declared.place.Place.{Place}
use Rattle.text_lex.specs.declared.word.LexKind.{LexKind}
use Rattle.text_lex.specs.Bytes.{line_feed, count_of}
use Rattle.text_lex.specs.Piece.{Piece, White, Joined, Comment, Item, spelled}
use Rattle.text_lex.specs.Split.{Split, words_from, last_from, place_after, first_place, split_from}
use Rattle.reading.specs.Pattern.{joined}
use Rattle.reading.specs.Reading.{Text}
use Rattle.reading.specs.Outcome.{Hears}
use Rattle.reading.specs.Word.{Token, word_of, end_at, seen_text}
use Rattle.script_options.specs.declared.command.Command.{Command}
use Rattle.script_options.specs.declared.command.Command.TheVariants as commands
use Rattle.script_options.specs.Command.{command_named}
use Rattle.pdn_script.specs.declared.record.Connect.{Connect}
use Rattle.pdn_script.specs.declared.record.Ring.{Ring}
use Rattle.pdn_script.specs.declared.record.Script.{Script}
use Rattle.pdn_script.specs.Known.{nothing_known, known_after}
use Rattle.pdn_script.specs.Record.{SaysCommand, SaysUnless, Told, with_statement, script_from, no_commands}
use Rattle.pdn_script.specs.Sort.{is_end}
use Rattle.pdn_script.specs.Format.{format, ReadsScript}
use Rattle.one_drawing.specs.Apart.{StandApart}

-- ## places

-- On an earlier line, or an earlier word of its line.
abbrev IsBefore : Place → Place → Type 0
IsBefore p q = (p.line < q.line) ⊎ ((p.line ≡ q.line) × (p.word < q.word))

-- Not after it.
abbrev IsUpTo : Place → Place → Type 0
IsUpTo p q = (p.line < q.line) ⊎ ((p.line ≡ q.line) × (p.word ≤ q.word))

before_more : (p q r : Place) → IsBefore p q → IsBefore q r → IsBefore p r
before_more p q r (inl a) (inl b) = inl (omega arith)
before_more p q r (inl a) (inr b) = inl (omega (arith, b.0))
before_more p q r (inr a) (inl b) = inl (omega (arith, a.0))
before_more p q r (inr a) (inr b) = inr (a.0 ∙ b.0, omega (arith, a.1, b.1))

up_to_more : (p q r : Place) → IsUpTo p q → IsBefore q r → IsUpTo p r
up_to_more p q r (inl a) (inl b) = inl (omega arith)
up_to_more p q r (inl a) (inr b) = inl (omega (arith, b.0))
up_to_more p q r (inr a) (inl b) = inl (omega (arith, a.0))
up_to_more p q r (inr a) (inr b) = inr (a.0 ∙ b.0, omega (arith, a.1, b.1))

up_to_itself : (p : Place) → IsUpTo p p
up_to_itself p = inr (refl, omega arith)

elsewhere : (p q r : Place) → IsUpTo p q → IsBefore q r → p ≢ r
elsewhere p q r up before same = by_lines up before
  where
    line : p.line ≡ r.line
    line = ap (λ (z : Place). z.line) same

    word : p.word ≡ r.word
    word = ap (λ (z : Place). z.word) same

    by_lines : IsUpTo p q → IsBefore q r → ⊥
    by_lines (inl a) (inl b) = absurd (omega (arith, line))
    by_lines (inl a) (inr b) = absurd (omega (arith, line, b.0))
    by_lines (inr a) (inl b) = absurd (omega (arith, line, a.0))
    by_lines (inr a) (inr b) = absurd (omega (arith, word, a.1, b.1))

-- ## words

-- The words stand after a place, each after the one before it.
abbrev Rise : Place → List Token → Type 0
Rise p [] = Unit {0}
Rise p (w ∷ ws) = IsBefore p w.place × Rise w.place ws

rise_before : (p q : Place) (ws : List Token) → IsBefore p q → Rise q ws → Rise p ws
rise_before p q [] before rise = tt
rise_before p q (w ∷ ws) before rise = (before_more p q w.place before rise.0, rise.1)

rise_rest : (p : Place) (xs ys : List Token) → Rise p (xs ++ ys) → Rise p ys
rise_rest p [] ys rise = rise
rise_rest p (x ∷ xs) ys rise = rise_before p x.place ys rise.0 (rise_rest x.place xs ys rise.1)

some_feeds : (feeds : ℕ) → (feeds == 0) ≡ false → 0 < feeds
some_feeds feeds some = grind (arith, nat_tests)

-- the place after a piece of which so many words and line feeds are
abbrev after : Bool → Place → ℕ → ℕ → Place
after alone p feeds words = cond alone (record { line = p.line; word = p.word + words }) (record { line = p.line + feeds; word = 1 })

after_by : (q p : Place) (feeds words : ℕ) (alone : Bool) → (feeds == 0) ≡ alone → IsBefore q p → IsBefore q (after alone p feeds words)
after_by q p feeds words true is (inl a) = inl a
after_by q p feeds words true is (inr a) = inr (a.0, omega (arith, a.1))
after_by q p feeds words false is (inl a) = let some = some_feeds feeds is in inl (omega arith)
after_by q p feeds words false is (inr a) = let some = some_feeds feeds is in inl (omega (arith, a.0))

after_word : (p : Place) (feeds : ℕ) (alone : Bool) → (feeds == 0) ≡ alone → IsBefore p (after alone p feeds 1)
after_word p feeds true is = inr (refl, omega arith)
after_word p feeds false is = let some = some_feeds feeds is in inl (omega arith)

-- how many line feeds a piece has
abbrev feeds_in : Piece → ℕ
feeds_in piece = count_of line_feed (spelled piece)

-- the words of pieces that begin after a place, and what stands after them
rise_words : (q p : Place) (pieces : List Piece) (ws : List Token) → IsBefore q p → ((r : Place) → IsBefore r (last_from p pieces) → Rise r ws) → Rise q (map word_of (words_from p pieces) ++ ws)
rise_words q p [] ws before rest = rest q before
rise_words q p (White byte ∷ pieces) ws before rest = rise_words q (place_after p (White byte)) pieces ws (after_by q p (feeds_in (White byte)) 0 (feeds_in (White byte) == 0) refl before) rest
rise_words q p (Joined bytes ∷ pieces) ws before rest = rise_words q (place_after p (Joined bytes)) pieces ws (after_by q p (feeds_in (Joined bytes)) 0 (feeds_in (Joined bytes) == 0) refl before) rest
rise_words q p (Comment bytes ∷ pieces) ws before rest = rise_words q (place_after p (Comment bytes)) pieces ws (after_by q p (feeds_in (Comment bytes)) 0 (feeds_in (Comment bytes) == 0) refl before) rest
rise_words q p (Item form text ∷ pieces) ws before rest = (
  before,
  rise_words p (place_after p (Item form text)) pieces ws (after_word p (feeds_in (Item form text)) (feeds_in (Item form text) == 0) refl) rest,
)

-- before the first word of a text
abbrev start : Place
start = record { line = 0; word = 0 }

rise_seen : (pieces : List Piece) (refusal : Option LexKind) → Rise start (seen_text (split_from first_place pieces refusal)).words
rise_seen pieces None = rise_words start first_place pieces (end_at (last_from first_place pieces) ∷ []) (inl (omega arith)) (λ r before. (before, tt))
rise_seen pieces (Some kind) = subst (Rise start) (append-nil (map word_of (words_from first_place pieces))) (rise_words start first_place pieces [] (inl (omega arith)) (λ r before. tt))

-- ## the script

-- Its connects and rings stand apart, and not after a place.
record StandUpTo (p : Place) (script : Script) : Type 0 where
  apart : StandApart script
  connects : All (λ (c : Connect). IsUpTo c.place p) script.connects
  rings : All (λ (r : Ring). IsUpTo r.place p) script.rings

later : (p q : Place) (script : Script) → IsBefore p q → StandUpTo p script → StandUpTo q script
later p q script before up = record {
  apart = up.apart;
  connects = λ k d within. up_to_more (get_or script.connects k d).place p q (up.connects k d within) before;
  rings = λ k d within. up_to_more (get_or script.rings k d).place p q (up.rings k d within) before;
}

with_connect : (p : Place) (script : Script) (c : Connect) → IsBefore p c.place → StandUpTo p script → StandUpTo c.place (record script { connects = script.connects ++ c ∷ [] })
with_connect p script c before up = record {
  apart = record {
    connects = all_pairs_push (λ (a b : Connect). a.place ≢ b.place) script.connects c up.apart.connects
        (λ k d within. elsewhere (get_or script.connects k d).place p c.place (up.connects k d within) before);
    rings = up.apart.rings;
    across = λ a r a_has r_has. across a r r_has (Contains-push_cases script.connects c a a_has);
  };
  connects = All-append (λ (a : Connect). IsUpTo a.place c.place) script.connects (c ∷ []) (later p c.place script before up).connects
      (All-cons (λ (a : Connect). IsUpTo a.place c.place) c [] (up_to_itself c.place) (All-nil (λ (a : Connect). IsUpTo a.place c.place)));
  rings = (later p c.place script before up).rings;
}
  where
    across : (a : Connect) (r : Ring) → Contains script.rings r → Contains script.connects a ⊎ (c ≡ a) → a.place ≢ r.place
    across a r r_has (inl front) = up.apart.across a r front r_has
    across a r r_has (inr is) = λ same.
        elsewhere r.place p c.place (All-contains (λ (b : Ring). IsUpTo b.place p) script.rings r up.rings r_has) before (sym same ∙ sym (ap (λ (z : Connect). z.place) is))

with_ring : (p : Place) (script : Script) (r : Ring) → IsBefore p r.place → StandUpTo p script → StandUpTo r.place (record script { rings = script.rings ++ r ∷ [] })
with_ring p script r before up = record {
  apart = record {
    connects = up.apart.connects;
    rings = all_pairs_push (λ (a b : Ring). a.place ≢ b.place) script.rings r up.apart.rings
        (λ k d within. elsewhere (get_or script.rings k d).place p r.place (up.rings k d within) before);
    across = λ c a c_has a_has. across c a c_has (Contains-push_cases script.rings r a a_has);
  };
  connects = (later p r.place script before up).connects;
  rings = All-append (λ (a : Ring). IsUpTo a.place r.place) script.rings (r ∷ []) (later p r.place script before up).rings
      (All-cons (λ (a : Ring). IsUpTo a.place r.place) r [] (up_to_itself r.place) (All-nil (λ (a : Ring). IsUpTo a.place r.place)));
}
  where
    across : (c : Connect) (a : Ring) → Contains script.connects c → Contains script.rings a ⊎ (r ≡ a) → c.place ≢ a.place
    across c a c_has (inl front) = up.apart.across c a c_has front
    across c a c_has (inr is) = λ same.
        elsewhere c.place p r.place (All-contains (λ (b : Connect). IsUpTo b.place p) script.connects c up.connects c_has) before (same ∙ sym (ap (λ (z : Ring). z.place) is))

with_other : (q : Place) (script other : Script) → other.connects ≡ script.connects → other.rings ≡ script.rings → StandUpTo q script → StandUpTo q other
with_other q script other connects rings up = record {
  apart = record {
    connects = subst (AllPairs (λ (a b : Connect). a.place ≢ b.place)) (sym connects) up.apart.connects;
    rings = subst (AllPairs (λ (a b : Ring). a.place ≢ b.place)) (sym rings) up.apart.rings;
    across = λ c r c_has r_has. up.apart.across c r (subst (λ (z : List Connect). Contains z c) connects c_has) (subst (λ (z : List Ring). Contains z r) rings r_has);
  };
  connects = subst (All (λ (c : Connect). IsUpTo c.place q)) (sym connects) up.connects;
  rings = subst (All (λ (r : Ring). IsUpTo r.place q)) (sym rings) up.rings;
}

-- ## commands

-- What a function takes.
abbrev Taken : {A B : Type 0} → (A → B) → Type 0
Taken {A} f = A

-- The names that are known, what one unit says, and what all of them say, as the definition of a script has them.
abbrev Names : Type 0
Names = Taken (λ known. known_after known [])

abbrev Said : Type 0
Said = Taken (with_statement no_commands)

abbrev AllSaid : Type 0
AllSaid = Taken (script_from no_commands)

with_none : (p q : Place) (script : Script) (one : Said) → one ≡ None → IsBefore p q → StandUpTo p script → StandUpTo q (with_statement script one)
with_none p q script one none before up = subst (λ (o : Said). StandUpTo q (with_statement script o)) (sym none) (later p q script before up)

with_command : (p : Place) (known : Names) (first : Token) (words : List Token) (command : Command) (script : Script) (one : Said) → SaysCommand known first words command one
    → IsBefore p first.place → StandUpTo p script → StandUpTo first.place (with_statement script one)
with_command p known first words commands.SetVoltageDomain script one (it, is, told) before up =
    subst (λ (o : Said). StandUpTo first.place (with_statement script o)) (sym told)
    (with_other first.place script (record script { domains = script.domains ++ it ∷ [] }) refl refl (later p first.place script before up))
with_command p known first words commands.DefinePdnGrid script one (it, is, told) before up =
    subst (λ (o : Said). StandUpTo first.place (with_statement script o)) (sym told)
    (with_other first.place script (record script { grids = script.grids ++ it ∷ [] }) refl refl (later p first.place script before up))
with_command p known first words commands.AddPdnStripe script one (it, is, told) before up =
    subst (λ (o : Said). StandUpTo first.place (with_statement script o)) (sym told)
    (with_other first.place script (record script { stripes = script.stripes ++ it ∷ [] }) refl refl (later p first.place script before up))
with_command p known first words commands.AddPdnRing script one (it, is, told) before up =
    subst (λ (o : Said). StandUpTo first.place (with_statement script o)) (sym told)
    (subst (λ (q : Place). StandUpTo q (record script { rings = script.rings ++ it ∷ [] })) is.place (with_ring p script it (subst (IsBefore p) (sym is.place) before) up))
with_command p known first words commands.AddPdnConnect script one (it, is, told) before up =
    subst (λ (o : Said). StandUpTo first.place (with_statement script o)) (sym told)
    (subst (λ (q : Place). StandUpTo q (record script { connects = script.connects ++ it ∷ [] })) is.place (with_connect p script it (subst (IsBefore p) (sym is.place) before) up))
with_command p known first words _ script one told before up = with_none p first.place script one told before up

with_unit : (p : Place) (passed : Bool) (known : Names) (first : Token) (words : List Token) (script : Script) (one : Said) → SaysUnless passed known first words one
    → IsBefore p first.place → StandUpTo p script → StandUpTo first.place (with_statement script one)
with_unit p true known first words script one told before up = with_none p first.place script one told before up
with_unit p false known first words script one told before up = with_command p known first words (command_named first.text) script one told before up

stands : (p : Place) (known : Names) (units : List (List Token)) (told : AllSaid) (script : Script) → Told known units told → Rise p (joined units) → StandUpTo p script
    → StandApart (script_from script told)
stands p known [] [] script are rise up = up.apart
stands p known ([] ∷ units) (one ∷ told) script are rise up =
    stands p (known_after known []) units told (with_statement script one) are.1 rise
    (subst (λ (o : Said). StandUpTo p (with_statement script o)) (sym are.0) up)
stands p known ((first ∷ words) ∷ units) (one ∷ told) script are rise up =
    stands first.place (known_after known (first ∷ words)) units told (with_statement script one) are.1 (rise_rest first.place words (joined units) rise.1)
    (with_unit p (known.passing || is_end first) known first words script one are.0 rise.0 up)
stands p known [] (one ∷ told) script are rise up = absurd are
stands p known (unit ∷ units) [] script are rise up = absurd are

nothing_stands : StandUpTo start no_commands
nothing_stands = record {
  apart = record {
    connects = λ i j d less within. absurd (omega arith);
    rings = λ i j d less within. absurd (omega arith);
    across = λ c r c_has r_has. absurd (omega (arith, c_has.1));
  };
  connects = All-nil (λ (c : Connect). IsUpTo c.place start);
  rings = All-nil (λ (r : Ring). IsUpTo r.place start);
}

-- A script has no unit that ends its text.
heard_all : (text : Text Token) (n : ℕ) (heard : Text Token) → Hears format text n heard → heard ≡ text
heard_all text n heard (inl goes) = goes.1
heard_all text n heard (inr ends) = absurd (false≢true ends.1.ends)

pub stand_apart : (text : List ℕ) (script : Script) → ReadsScript text (Ok script) → StandApart script
stand_apart text script (split, is, units, (heard, hears, read), (told, are, says)) =
    let pieces = is.0 in
    let seen : Rise start (seen_text split).words = subst (λ (s : Split). Rise start (seen_text s).words) (sym is.2) (rise_seen pieces split.refusal) in
    let all : heard ≡ seen_text split = heard_all (seen_text split) (length heard.words) heard hears in
    let words : Rise start (joined units) = subst (Rise start) (read.is) (subst (λ (t : Text Token). Rise start t.words) (sym all) seen) in
    subst StandApart (sym says) (stands start nothing_known units told no_commands are words nothing_stands)
