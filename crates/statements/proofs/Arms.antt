-- What the arms of the reader that is written by hand owe; the search proves those that refuse a word.
use Rattle.std.specs.Prelude.{codes}
use Rattle.std.proofs.Common.{◌≡◌, ℕ, ◌+◌, Bool, true, false, List, [], ◌∷◌, refl, ap, arith}
use Rattle.reading.specs.declared.word.Form.TheVariants.{Bare, End}
use Rattle.reading.specs.Word.{Token}
use Rattle.reading.specs.Pattern.{Matches, Begins}
use Rattle.reading.specs.Reader.{GoesOn, Closes, Faulty}
use Rattle.statements.specs.declared.by_hand.Seen.TheVariants.{Nothing, Keyword, Name, Number}
use Rattle.statements.specs.declared.sort.Sort.{Sort}
use Rattle.statements.specs.declared.sort.Sort.TheVariants.{Set, Semicolon, TextEnd}
use Rattle.statements.specs.declared.fault.Kind.TheVariants.{NotWhole}
use Rattle.statements.proofs.Law.{word_of, ends}
use Rattle.statements.specs.Sort.{sort_of}
use Rattle.statements.specs.Rule.{is_set, is_name, is_number, is_semicolon, is_end, unit}
use Rattle.statements.specs.Fault.{is_whole}
use Rattle.statements.specs.Record.{count_of}
use Rattle.statements.specs.Format.{statements_format}
use Rattle.statements.specs.inside.ByHand.{IsSeen, Stands}
use Rattle.statements.proofs.Counts.{count-more}
use Rattle.statements.proofs.WholeUnit.{whole-to, whole-from}

-- Words that complete a statement.
abbrev some_name : Token
some_name = word_of Bare (codes "name")

abbrev some_number : Token
some_number = word_of Bare (codes "1")

abbrev semicolon : Token
semicolon = word_of Bare (codes ";")

-- The end of the text is in none of the classes that leave it out.
no-end : (class : Sort → Bool) (w : Token) → class TextEnd ≡ false → class (sort_of w) ≡ true → w.form ≡ End → ⊥
no-end class w out h end = let e : class (sort_of w) ≡ class TextEnd = ap class (ends w end) in let no : true ≡ false = cc in cc

pub keyword : (count : ℕ) (units : List (List Token)) (part : List Token) (w : Token) → count ≡ count_of units → IsSeen Nothing part → sort_of w ≡ Set →
    GoesOn statements_format (Stands (record { count = count; seen = Keyword })) units part w
keyword count units [] w held seen sort =
    let set : is_set (sort_of w) ≡ true = ap is_set sort in
    record {
      begins = (some_name ∷ some_number ∷ semicolon ∷ [], whole-to (w ∷ some_name ∷ some_number ∷ semicolon ∷ []) (set, refl, refl, refl));
      partly = λ m. let no : is_end (sort_of w) ≡ true = whole-from (w ∷ []) m in let e : is_end (sort_of w) ≡ false = ap is_end sort in cc;
      fine = λ a h. h;
      not_end = no-end is_set w refl set;
      there = (held, set);
    }
keyword count units (x ∷ part) w held seen sort = absurd seen

pub name : (count : ℕ) (units : List (List Token)) (part : List Token) (w : Token) → count ≡ count_of units → IsSeen Keyword part → is_name (sort_of w) ≡ true →
    GoesOn statements_format (Stands (record { count = count; seen = Name })) units part w
name count units (a ∷ []) w held seen h = record {
  begins = (some_number ∷ semicolon ∷ [], whole-to (a ∷ w ∷ some_number ∷ semicolon ∷ []) (seen, h, refl, refl));
  partly = whole-from (a ∷ w ∷ []);
  fine = λ x k. k;
  not_end = no-end is_name w refl h;
  there = (held, (seen, h));
}
name count units part w held seen h = absurd seen

number-begins : (a b w : Token) → IsSeen Name (a ∷ b ∷ []) → is_number (sort_of w) ≡ true → Begins sort_of unit (a ∷ b ∷ w ∷ [])
number-begins a b w seen h = (semicolon ∷ [], whole-to (a ∷ b ∷ w ∷ semicolon ∷ []) (seen.0, seen.1, h, refl))

pub number : (count : ℕ) (units : List (List Token)) (part : List Token) (w : Token) → count ≡ count_of units → IsSeen Name part → is_number (sort_of w) ≡ true →
    is_whole w.text ≡ true → GoesOn statements_format (Stands (record { count = count; seen = Number })) units part w
number count units (a ∷ b ∷ []) w held seen h whole = record {
  begins = number-begins a b w seen h;
  partly = whole-from (a ∷ b ∷ w ∷ []);
  fine = λ x fault. let e : is_whole w.text ≡ false = fault.0 in cc;
  not_end = no-end is_number w refl h;
  there = (held, (seen.0, seen.1, h));
}
number count units part w held seen h whole = absurd seen

pub fault : (units : List (List Token)) (part : List Token) (w : Token) → IsSeen Name part → is_number (sort_of w) ≡ true → is_whole w.text ≡ false →
    Faulty statements_format units part w w.place NotWhole
fault units (a ∷ b ∷ []) w seen h whole = record { begins = number-begins a b w seen h; at = 2; is = (whole, refl); place_is = refl }
fault units part w seen h whole = absurd seen

nothing-more : (x : List Token) (a b c d : Token) → Matches sort_of unit (a ∷ b ∷ c ∷ d ∷ x) → x ≡ []
nothing-more [] a b c d m = refl
nothing-more (y ∷ x) a b c d m = absurd (whole-from (a ∷ b ∷ c ∷ d ∷ y ∷ x) m)

pub statement : (count more : ℕ) (units : List (List Token)) (part : List Token) (w : Token) → count ≡ count_of units → more ≡ count + 1 → IsSeen Number part → sort_of w ≡ Semicolon →
    Closes statements_format (Stands (record { count = more; seen = Nothing })) units part w
statement count more units (a ∷ b ∷ c ∷ []) w held is seen sort = record {
  matches = whole-to (a ∷ b ∷ c ∷ w ∷ []) (seen.0, seen.1, seen.2, ap is_semicolon sort);
  ends = λ x. nothing-more x a b c w;
  fine = λ x h. h;
  there = (omega (arith, held, is, count-more units (a ∷ b ∷ c ∷ w ∷ [])), tt);
}
statement count more units part w held is seen sort = absurd seen

-- No statement begins with the end of the text.
end-alone : (x : List Token) (w : Token) → sort_of w ≡ TextEnd → Matches sort_of unit (w ∷ x) → x ≡ []
end-alone [] w sort m = refl
end-alone (a ∷ b ∷ c ∷ []) w sort m =
    let set : is_set (sort_of w) ≡ true = (whole-from (w ∷ a ∷ b ∷ c ∷ []) m).0 in let no : is_set (sort_of w) ≡ false = ap is_set sort in cc
end-alone x w sort m = absurd (whole-from (w ∷ x) m)

pub end : (count : ℕ) (units : List (List Token)) (part : List Token) (w : Token) → count ≡ count_of units → IsSeen Nothing part → sort_of w ≡ TextEnd →
    Closes statements_format (Stands (record { count = count; seen = Nothing })) units part w
end count units [] w held seen sort = record {
  matches = whole-to (w ∷ []) (ap is_end sort);
  ends = λ x. end-alone x w sort;
  fine = λ x h. h;
  there = (omega (arith, held, count-more units (w ∷ [])), tt);
}
end count units (x ∷ part) w held seen sort = absurd seen
