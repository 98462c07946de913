-- The words of a command before the value of an option.
use Rattle.std.proofs.Common.{◌≡◌, ◌⊎◌, inl, inr, ℕ, Bool, true, false, Some, None, List, [], ◌∷◌, ◌++◌, refl, sym, ap, ◌∙◌, subst, if◌then◌else◌}
use Rattle.std.specs.Prelude.{Option}
use Rattle.std.proofs.lemmas.Bool.{false≢true}
use Rattle.std.proofs.lemmas.Option.{same_Some}
use Rattle.reading.specs.Word.{Token, last_of}
use Rattle.script_options.specs.declared.option.ScriptOption.{ScriptOption}
use Rattle.script_options.specs.declared.option.ScriptOption.TheVariants.{Power, Ground}
use Rattle.script_options.specs.Option.{same_option}
use Rattle.pdn_script.specs.Fault.{front_of}
use Rattle.pdn_script.specs.Given.{waits_after, waiting_from, is_waiting, value_from}

some_is_not_none : {Y : Type 0} (y : Y) → Some y ≡ None → ⊥
some_is_not_none y e = cc

-- ## the value of an option

-- The words end before and behind the value, which is the first one of the option.
pub record HasValue (option : ScriptOption) (waits : Option ScriptOption) (words : List Token) (text : List ℕ) : Type 0 where
  pub before : List Token
  pub word : Token
  pub after : List Token
  pub is : words ≡ before ++ word ∷ after
  pub waiting : is_waiting option (waiting_from waits before) ≡ true
  pub text_is : word.text ≡ text
  pub none : value_from option waits before ≡ None

pub has_value : (option : ScriptOption) (waits : Option ScriptOption) (words : List Token) (text : List ℕ) → value_from option waits words ≡ Some text
    → HasValue option waits words text
has_value option waits [] text e = absurd (some_is_not_none text (sym e))
has_value option waits (w ∷ words) text e = by (is_waiting option waits) refl (has_value option (waits_after waits w) words text)
  where
    by : (b : Bool) → is_waiting option waits ≡ b
        → (value_from option (waits_after waits w) words ≡ Some text → HasValue option (waits_after waits w) words text) → HasValue option waits (w ∷ words) text
    by true is rest = record {
      before = [];
      word = w;
      after = words;
      is = refl;
      waiting = is;
      text_is = same_Some w.text text (subst (λ b. (if b then Some w.text else value_from option (waits_after waits w) words) ≡ Some text) is e);
      none = refl;
    }
    by false is rest =
        let later = rest
        (subst (λ b. (if b then Some w.text else value_from option (waits_after waits w) words) ≡ Some text) is e) in
        record {
          before = w ∷ later.before;
          word = later.word;
          after = later.after;
          is = ap (λ (l : List Token). w ∷ l) later.is;
          waiting = later.waiting;
          text_is = later.text_is;
          none = subst (λ b. (if b then Some w.text else value_from option (waits_after waits w) later.before) ≡ None) (sym is) later.none;
        }

-- The words up to a value, and more of them, give this value.
pub value_there : (option : ScriptOption) (waits : Option ScriptOption) (front : List Token) (w : Token) (more : List Token) → value_from option waits front ≡ None
    → is_waiting option (waiting_from waits front) ≡ true → value_from option waits (front ++ w ∷ more) ≡ Some w.text
value_there option waits [] w more none is = ap (λ b. if b then Some w.text else value_from option (waits_after waits w) more) is
value_there option waits (x ∷ front) w more none is = by (is_waiting option waits) refl (λ e. value_there option (waits_after waits x) front w more e is)
  where
    by : (b : Bool) → is_waiting option waits ≡ b
        → (value_from option (waits_after waits x) front ≡ None → value_from option (waits_after waits x) (front ++ w ∷ more) ≡ Some w.text)
        → value_from option waits (x ∷ front ++ w ∷ more) ≡ Some w.text
    by true found rest =
        absurd (some_is_not_none x.text (subst (λ b. (if b then Some x.text else value_from option (waits_after waits x) front) ≡ None) found none))
    by false found rest =
        ap (λ b. if b then Some x.text else value_from option (waits_after waits x) (front ++ w ∷ more)) found
        ∙ rest (subst (λ b. (if b then Some x.text else value_from option (waits_after waits x) front) ≡ None) found none)

-- ## which option waits

is_power : (other : ScriptOption) → same_option other Power ≡ true → other ≡ Power
is_power Power e = refl
is_power _ e = absurd (false≢true e)

is_ground : (other : ScriptOption) → same_option other Ground ≡ true → other ≡ Ground
is_ground Ground e = refl
is_ground _ e = absurd (false≢true e)

pub power_waits : (waits : Option ScriptOption) → is_waiting Power waits ≡ true → waits ≡ Some Power
power_waits None e = absurd (false≢true e)
power_waits (Some other) e = ap (λ (o : ScriptOption). Some o) (is_power other e)

pub ground_waits : (waits : Option ScriptOption) → is_waiting Ground waits ≡ true → waits ≡ Some Ground
ground_waits None e = absurd (false≢true e)
ground_waits (Some other) e = ap (λ (o : ScriptOption). Some o) (is_ground other e)

-- not both
pub one_waits : (waits : Option ScriptOption) → waits ≡ Some Power → waits ≡ Some Ground → ⊥
one_waits waits power ground =
    let same : Power ≡ Ground = same_Some Power Ground (sym power ∙ ground) in
    absurd (false≢true (ap (λ (o : ScriptOption). same_option o Ground) same))

-- ## one word more

pub last_is : (words : List Token) (w : Token) → last_of (words ++ w ∷ []) ≡ Some w
last_is [] w = refl
last_is (x ∷ []) w = refl
last_is (x ∷ y ∷ words) w = last_is (y ∷ words) w

pub front_is : (words : List Token) (w : Token) → front_of (words ++ w ∷ []) ≡ words
front_is [] w = refl
front_is (x ∷ []) w = refl
front_is (x ∷ y ∷ words) w = ap (λ (l : List Token). x ∷ l) (front_is (y ∷ words) w)

-- ## two places in a list

head_of : {X : Type 0} → X → List X → X
head_of d [] = d
head_of d (x ∷ xs) = x

tail_of : {X : Type 0} → List X → List X
tail_of [] = []
tail_of (x ∷ xs) = xs

same_head : {X : Type 0} (x y : X) (xs ys : List X) → x ∷ xs ≡ y ∷ ys → x ≡ y
unfolding head_of
same_head x y xs ys e = ap (head_of x) e

same_tail : {X : Type 0} (x y : X) (xs ys : List X) → x ∷ xs ≡ y ∷ ys → xs ≡ ys
unfolding tail_of
same_tail x y xs ys e = ap tail_of e

-- One list goes on behind the other and a word.
abbrev pub GoesOn : List Token → Token → List Token → Type 0
GoesOn short w long = (middle : List Token) × (long ≡ short ++ w ∷ middle)

pub two_places : (a b : List Token) (v w : Token) (xs ys : List Token) → a ++ v ∷ xs ≡ b ++ w ∷ ys → (a ≡ b) ⊎ (GoesOn a v b ⊎ GoesOn b w a)
two_places [] [] v w xs ys e = inl refl
two_places [] (y ∷ b) v w xs ys e = inr (inl (b, ap (λ (z : Token). z ∷ b) (sym (same_head v y xs (b ++ w ∷ ys) e))))
two_places (x ∷ a) [] v w xs ys e = inr (inr (a, ap (λ (z : Token). z ∷ a) (same_head x w (a ++ v ∷ xs) ys e)))
two_places (x ∷ a) (y ∷ b) v w xs ys e = by (two_places a b v w xs ys (same_tail x y (a ++ v ∷ xs) (b ++ w ∷ ys) e))
  where
    head : x ≡ y
    head = same_head x y (a ++ v ∷ xs) (b ++ w ∷ ys) e

    by : (a ≡ b) ⊎ (GoesOn a v b ⊎ GoesOn b w a) → (x ∷ a ≡ y ∷ b) ⊎ (GoesOn (x ∷ a) v (y ∷ b) ⊎ GoesOn (y ∷ b) w (x ∷ a))
    by (inl same) = inl (λ i. head i ∷ same i)
    by (inr (inl (middle, is))) = inr (inl (middle, λ i. sym head i ∷ is i))
    by (inr (inr (middle, is))) = inr (inr (middle, λ i. head i ∷ is i))
