-- The options that words give.
use Rattle.std.proofs.Common.{◌≡◌, ℕ, ◌<◌, true, List, [], ◌∷◌, length, map, drop, Option, Some, refl, arith, length-drop}
use Rattle.pdn_script.specs.Given.{is_waiting, value_at_from}
use Rattle.pdn_script.specs.declared.value.Value.{Value}
use Rattle.reading.specs.declared.word.Heard.{Heard}
use Rattle.reading.specs.Word.{heard_token}
use Rattle.script_options.specs.declared.option.ScriptOption.{ScriptOption}

found_first : (option : ScriptOption) (waits : Option ScriptOption) (n : ℕ) (ys : List (Heard Value)) → 0 < length ys → is_waiting option waits ≡ true →
    value_at_from option waits n (map heard_token ys) ≡ Some n
found_first option waits n [] some here = absurd (omega arith)
found_first option waits n (y ∷ ys) some here = rw here refl

-- The value stands here.
pub found_here : (option : ScriptOption) (waits : Option ScriptOption) (i : ℕ) (xs : List (Heard Value)) → i < length xs → is_waiting option waits ≡ true →
    value_at_from option waits i (map heard_token (drop i xs)) ≡ Some i
found_here option waits i xs h here = found_first option waits i (drop i xs) (omega (arith, length-drop i xs)) here
