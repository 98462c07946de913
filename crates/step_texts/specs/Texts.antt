-- The texts of bounds over time: for each step, from step 0 on, a high and a low voltage of each node, in yoctovolts.
use Rattle.std.specs.Prelude.{ℕ, ℤ, pos, List, [], ◌∷◌, ◌++◌, codes, decimal}
use Rattle.std.specs.List.{flat_map, enumerate_from, zip}
use Rattle.rounding.specs.Rounding.{floor_div, ceil_div}
use Rattle.grid_net.specs.Network.{entry_of}
use Rattle.bound_check.specs.Certified.{nanovolt}
use Rattle.certificate_file.specs.Written.{certificate_text}
use Rattle.signoff_report.specs.Report.{line_of, node_words}

-- The line that begins a step has its number.
abbrev pub step_line : ℕ → List ℕ
step_line step = line_of (codes "step" ∷ decimal step ∷ [])

-- Between which two voltages a node lies by two lists, in nanovolts, rounded outward: the lower one first.
abbrev pub shown_by : List ℤ → List ℤ → ℕ → ℤ × ℤ
shown_by high low node = (floor_div (entry_of low node) (pos nanovolt), ceil_div (entry_of high node) (pos nanovolt))

-- The line of a node, as it stands in a report.
abbrev pub node_line : List ℤ → List ℤ → ℕ × List ℕ → List ℕ
node_line high low node = line_of (node_words node.1 (shown_by high low node.0))

-- The lines of the nodes.
abbrev pub node_lines : List (List ℕ) → List ℤ → List ℤ → List ℕ
node_lines names high low = flat_map (node_line high low) (enumerate_from 0 names)

-- The steps, counted from 0, each with its high and its low list.
abbrev pub numbered_steps : List (List ℤ) → List (List ℤ) → List (ℕ × (List ℤ × List ℤ))
numbered_steps high low = enumerate_from 0 (zip high low)

-- A step of the certificate: its line, and the certificate of its two lists.
abbrev pub certified_step : List (List ℕ) → ℕ × (List ℤ × List ℤ) → List ℕ
certified_step names step = step_line step.0 ++ certificate_text names step.1.0 step.1.1

-- A step of the report: its line, and the lines of the nodes.
abbrev pub reported_step : List (List ℕ) → ℕ × (List ℤ × List ℤ) → List ℕ
reported_step names step = step_line step.0 ++ node_lines names step.1.0 step.1.1

-- The certificate of all steps.
abbrev pub steps_certificate : List (List ℕ) → List (List ℤ) → List (List ℤ) → List ℕ
steps_certificate names high low = flat_map (certified_step names) (numbered_steps high low)

-- The report of all steps: its first line, the steps, and its end.
abbrev pub steps_report : List (List ℕ) → List (List ℤ) → List (List ℤ) → List ℕ
steps_report names high low =
    line_of (codes "pdn steps 1" ∷ [])
    ++ flat_map (reported_step names) (numbered_steps high low)
    ++ line_of (codes "end" ∷ [])
