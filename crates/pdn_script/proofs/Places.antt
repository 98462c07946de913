-- Where the faults stand that the end of a command shows.
use Rattle.std.proofs.Common.{◌≡◌, ℕ, ◌+◌, ◌<◌, Bool, true, false, cond, List, [], ◌∷◌, length, Option, None, Some, refl, ap, arith}
use Rattle.pdn_script.specs.declared.error.ScriptKind.{ScriptKind}
use Rattle.pdn_script.specs.declared.error.ScriptKind.TheVariants as kinds
use Rattle.pdn_script.specs.declared.known.Known.{Known}
use Rattle.pdn_script.specs.Fault.{front_of, late_at, end_late, late_role, late_last_of, late_in}
use Rattle.pdn_script.specs.Given.{is_waiting, waits_after, value_at_from, value_at, is_of_macro_grids, macro_at_from, macro_at, waiting}
use Rattle.pdn_script.specs.Sort.{is_end}
use Rattle.reading.specs.declared.refusal.Found.{Found}
use Rattle.reading.specs.Word.{Token, last_of}
use Rattle.script_options.specs.declared.command.Command.{Command}
use Rattle.script_options.specs.declared.command.Command.TheVariants as commands
use Rattle.script_options.specs.declared.option.ScriptOption.{ScriptOption}
use Rattle.script_options.specs.declared.option.ScriptOption.TheVariants as options
use Rattle.script_options.specs.Command.{command_named}

no_number : (m : ℕ) → ◌≡◌ {A = Option ℕ} None (Some m) → ⊥
no_number m h = cc

number_is : (k m : ℕ) → ◌≡◌ {A = Option ℕ} (Some k) (Some m) → k ≡ m
number_is k m h = cc

none_is : (a : Found ScriptKind) → ◌≡◌ {A = Option (Found ScriptKind)} None (Some a) → ⊥
none_is a h = cc

found_is : (a b : Found ScriptKind) → ◌≡◌ {A = Option (Found ScriptKind)} (Some a) (Some b) → a ≡ b
found_is a b h = cc

-- A place that is found here, or later.
step : (b : Bool) (k n m : ℕ) (later : Option ℕ) → cond b (Some k) later ≡ Some m → (later ≡ Some m → m < k + 1 + n) → m < k + (n + 1)
step true k n m later h go = let e = number_is k m h in omega arith
step false k n m later h go = let l = go h in omega arith

value_within : (option : ScriptOption) (waits : Option ScriptOption) (k : ℕ) (words : List Token) (m : ℕ) → value_at_from option waits k words ≡ Some m → m < k + length words
value_within option waits k [] m h = absurd (no_number m h)
value_within option waits k (w ∷ words) m h =
    let t = step (is_waiting option waits) k (length words) m (value_at_from option (waits_after waits w) (k + 1) words) h
    (λ l. value_within option (waits_after waits w) (k + 1) words m l) in
    omega arith

macro_within : (waits : Option ScriptOption) (k : ℕ) (words : List Token) (m : ℕ) → macro_at_from waits k words ≡ Some m → m < k + length words
macro_within waits k [] m h = absurd (no_number m h)
macro_within waits k (w ∷ words) m h =
    let t = step (is_of_macro_grids waits w) k (length words) m (macro_at_from (waits_after waits w) (k + 1) words) h
    (λ l. macro_within (waits_after waits w) (k + 1) words m l) in
    omega arith

late_near : (p : Option ℕ) (kind : ScriptKind) (a : Found ScriptKind) (n : ℕ) → late_at p kind ≡ Some a → ((m : ℕ) → p ≡ Some m → m < n) → a.at < n + 1
late_near None kind a n h within = absurd (none_is a h)
late_near (Some k) kind a n h within =
    let e : k + 1 ≡ a.at = ap (λ (z : Found ScriptKind). z.at) (found_is (record { at = k + 1; kind = kind }) a h) in
    let l = within k refl in
    omega arith

if_near : (b : Bool) (p : Option ℕ) (kind : ScriptKind) (a : Found ScriptKind) (n : ℕ) → cond b (late_at p kind) None ≡ Some a → ((m : ℕ) → p ≡ Some m → m < n) → a.at < n + 1
if_near true p kind a n h within = late_near p kind a n h within
if_near false p kind a n h within = absurd (none_is a h)

unless_near : (b : Bool) (p : Option ℕ) (kind : ScriptKind) (a : Found ScriptKind) (n : ℕ) → cond b None (late_at p kind) ≡ Some a → ((m : ℕ) → p ≡ Some m → m < n) → a.at < n + 1
unless_near true p kind a n h within = absurd (none_is a h)
unless_near false p kind a n h within = late_near p kind a n h within

end_near : (known : Known) (command : Command) (words : List Token) (a : Found ScriptKind) → end_late known command words ≡ Some a → a.at < length words + 1
end_near known commands.SetVoltageDomain words a h =
    if_near _ (value_at options.Region words) kinds.Twice a (length words) h (λ m e. let l = value_within options.Region None 0 words m e in omega arith)
end_near known commands.DefinePdnGrid words a h =
    unless_near _ (macro_at words) kinds.UnknownOption a (length words) h (λ m e. let l = macro_within None 0 words m e in omega arith)
end_near known command words a h = absurd (none_is a h)

end_or_none : (b : Bool) (known : Known) (command : Command) (words : List Token) (a : Found ScriptKind) → cond b (end_late known command words) None ≡ Some a →
    a.at < length words + 1
end_or_none true known command words a h = end_near known command words a h
end_or_none false known command words a h = absurd (none_is a h)

role_near : (known : Known) (command : Command) (before : List Token) (last : Token) (waits : Option ScriptOption) (a : Found ScriptKind) →
    late_role known command before last waits ≡ Some a → a.at < length before + 1
role_near known command before last (Some option) a h = absurd (none_is a h)
role_near known command before last None a h = end_or_none (is_end last) known command before a h

front_shorter : (words : List Token) (last : Token) → last_of words ≡ Some last → length (front_of words) + 1 ≡ length words
front_shorter [] last h = absurd (let t : ◌≡◌ {A = Option Token} None (Some last) = h in cc)
front_shorter (w ∷ []) last h = refl
front_shorter (w ∷ x ∷ words) last h = let e = front_shorter (x ∷ words) last h in omega arith

last_near : (known : Known) (first : Token) (words : List Token) (last : Option Token) (a : Found ScriptKind) → last_of words ≡ last →
    late_last_of known first words last ≡ Some a → a.at < length words + 1
last_near known first words None a e h = absurd (none_is a h)
last_near known first words (Some last) a e h =
    let s = front_shorter words last e in
    let l = role_near known (command_named first.text) (front_of words) last (waiting (front_of words)) a h in
    omega arith

-- A fault at an earlier word stands at a word of its command.
pub late_stands : (known : Known) (part : List Token) (a : Found ScriptKind) → late_in known part ≡ Some a → a.at < length part
late_stands known [] a h = absurd (none_is a h)
late_stands known (first ∷ words) a h = let l = last_near known first words (last_of words) a refl h in omega arith
