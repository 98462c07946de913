-- The text of a report, line by line: the nets, the nodes and the branches of a certified network.
use Rattle.std.specs.Prelude.{ℕ, ℤ, pos, Option, Some, None, List, [], ◌∷◌, ◌++◌, codes, decimal, slice_index_or}
use Rattle.std.specs.List.{flat_map, enumerate_from, zip, join_with_byte}
use Rattle.fixed_decimal.specs.Printed.{printed}
use Rattle.grid_net.specs.declared.part.Resistor.{Resistor}
use Rattle.bound_check.specs.Certified.{Certificate}
use Rattle.em_rules.specs.declared.words.Verdict.{Verdict}
use Rattle.em_rules.specs.declared.words.Verdict.TheVariants.{Safe, Unsafe, Undecided, NoLimit}
use Rattle.signoff_report.specs.declared.records.Limits.{Limits}
use Rattle.signoff_report.specs.declared.records.NetLimit.{NetLimit}
use Rattle.signoff_report.specs.Shown.{shown_voltage, shown_current}
use Rattle.signoff_report.specs.Judged.{branch_verdict, net_verdict}

-- A line: its words with single blanks (32) between them, and the line feed (10).
abbrev pub line_of : List (List ℕ) → List ℕ
line_of words = join_with_byte 32 words ++ 10 ∷ []

-- The word of a verdict.
abbrev pub word_of : Verdict → List ℕ
word_of Safe = codes "SAFE"
word_of Unsafe = codes "UNSAFE"
word_of Undecided = codes "OPEN"
word_of NoLimit = codes "NOLIMIT"

-- A limit that may be stated, with so many places.
abbrev pub stated : ℕ → Option ℤ → List ℕ
stated places None = codes "none"
stated places (Some value) = printed value places

-- The limit of a branch, in amperes with 15 places, which are whole femtoamperes.
abbrev pub stated_limit : Option ℕ → List ℕ
stated_limit None = codes "none"
stated_limit (Some limit) = printed (pos limit) 15

-- The line of a net: its name, its drop limit in volts with 24 places, which are whole yoctovolts, and its verdict.
abbrev pub net_words : NetLimit → Verdict → List (List ℕ)
net_words net verdict = codes "net" ∷ net.name ∷ stated 24 net.drop ∷ word_of verdict ∷ []

abbrev pub net_line : Certificate → Limits → ℕ × NetLimit → List ℕ
net_line c limits net = line_of (net_words net.1 (net_verdict c limits net.0 net.1))

-- The line of a node: its name, and the ends of its voltage in volts with 9 places, which are whole nanovolts.
abbrev pub node_words : List ℕ → ℤ × ℤ → List (List ℕ)
node_words name shown = codes "node" ∷ name ∷ printed shown.0 9 ∷ printed shown.1 9 ∷ []

abbrev pub node_line : Certificate → ℕ × List ℕ → List ℕ
node_line c node = line_of (node_words node.1 (shown_voltage c node.0))

-- The line of the k-th resistor: its number, the names of its ends, the ends of its current from a to b in amperes with 9
-- places, which are whole nanoamperes, its limit and its verdict.
abbrev pub branch_words : ℕ → List ℕ → List ℕ → ℤ × ℤ → Option ℕ → Verdict → List (List ℕ)
branch_words number from to shown limit verdict =
    codes "branch" ∷ (codes "R" ++ decimal number) ∷ from ∷ to ∷ printed shown.0 9 ∷ printed shown.1 9 ∷ stated_limit limit
    ∷ word_of verdict ∷ []

-- The name of a node.
abbrev pub name_of : List (List ℕ) → ℕ → List ℕ
name_of names node = slice_index_or names node []

abbrev pub branch_line : Certificate → List (List ℕ) → ℕ × (Resistor × Option ℕ) → List ℕ
branch_line c names branch =
    line_of (branch_words branch.0 (name_of names branch.1.0.a) (name_of names branch.1.0.b) (shown_current c branch.1.0)
    branch.1.1 (branch_verdict c branch.1))

-- The report: its head, the nets, the nodes, the branches, which are counted from 1, and its end.
abbrev pub written_report : Certificate → List (List ℕ) → Limits → List ℕ
written_report c names limits =
    line_of (codes "pdn report 1" ∷ [])
    ++ flat_map (net_line c limits) (enumerate_from 0 limits.nets)
    ++ flat_map (node_line c) (enumerate_from 0 names)
    ++ flat_map (branch_line c names) (enumerate_from 1 (zip c.net.resistors limits.branches))
    ++ line_of (codes "end" ∷ [])
