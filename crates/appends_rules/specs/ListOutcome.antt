-- Document 02, "lists instead of single values": the findings with their last field, the two lists of pairs, and the outcome of the call on what was read.
use Rattle.std.specs.Prelude.{ℕ, ◌+◌, ◌/◌, ◌%◌, List, [], ◌∷◌, ◌++◌, length, ltb, eqb}
use Rattle.base.specs.Base.{pick, first, those, joined}
use Rattle.rules.specs.Numbers.{over}
use Rattle.rules.specs.History.{History, op, op_count}
use Rattle.rules.specs.Reading.{Reading, refused, read, reading}
use Rattle.appends_rules.specs.Appends.{key_of, append_of, lists_in}
use Rattle.appends_rules.specs.ListKinds.{element, last_element, is_again, is_undone, list_kind, is_list_finding}
use Rattle.appends_rules.specs.Dependencies.{write_pairs, dep_pairs, pair_with, dep_reasons}

-- "Findings are as in request Three, the last field being the append of the first element at fault for 8 and 9, of the last element for 10, else 0"; e is the
-- list, x its key, k its kind
unfoldable pub fault_by : History → ℕ → List ℕ → ℕ → ℕ
fault_by h x e k =
    pick (eqb k 8) (append_of h x (element e (first 0 0 (length e) (is_again e))))
    (pick (eqb k 9) (append_of h x (element e (first 0 0 (length e) (is_undone h x e))))
    (pick (eqb k 10) (append_of h x (last_element e)) 0))

unfoldable pub fault_of : History → (ℕ → List ℕ) → ℕ → ℕ
fault_of h l i = fault_by h (key_of h i) (l i) (list_kind h l i)

unfoldable pub list_findings : History → (ℕ → List ℕ) → List ℕ
list_findings h l = those 1 (op_count h + 1) (is_list_finding h l)

unfoldable pub list_finding_bytes : History → (ℕ → List ℕ) → ℕ → List ℕ
list_finding_bytes h l i =
    (op h i).tx ∷ list_kind h l i ∷ i % 256 ∷ i / 256 ∷ fault_of h l i % 256 ∷ fault_of h l i / 256 ∷ []

unfoldable pub list_finding_list : History → (ℕ → List ℕ) → List ℕ
list_finding_list h l = joined (list_finding_bytes h l) (list_findings h l)

-- "Two pair lists by demand 3's rule follow in one buffer: over write dependencies, then over both"
unfoldable pub write_dep_list : History → (ℕ → List ℕ) → List ℕ
write_dep_list h l = joined (pair_with (λ a b. 16)) (write_pairs h l)

unfoldable pub dep_list : History → (ℕ → List ℕ) → List ℕ
dep_list h l = joined (pair_with (dep_reasons h l)) (dep_pairs h l)

unfoldable pub both_lists : History → (ℕ → List ℕ) → List ℕ
both_lists h l = write_dep_list h l ++ dep_list h l

-- refused, with a number and a place; or the three counts. With what each buffer then holds
pub data ListReport : Type 0 where
  lists_refused : ℕ → ℕ → ListReport
  lists_told : ℕ → ℕ → ℕ → ListReport

pub record ListOutcome : Type 0 where
  pub report : ListReport
  pub findings : List ℕ
  pub pairs : List ℕ

abbrev pub list_outcome : ListReport → List ℕ → List ℕ → ListOutcome
list_outcome r fs ps = record { report = r; findings = fs; pairs = ps }

-- of what was read: ".. then 12, 13"; "all three counts are answered"
unfoldable pub told_lists : History → (ℕ → List ℕ) → List ℕ → List ℕ → ListOutcome
told_lists h l fs ps =
    pick (ltb (length fs) (length (list_finding_list h l))) (list_outcome (lists_refused 12 (length (list_finding_list h l))) fs ps)
    (pick (ltb (length ps) (length (both_lists h l))) (list_outcome (lists_refused 13 (length (both_lists h l))) fs ps)
    (list_outcome (lists_told (length (list_findings h l)) (length (write_pairs h l)) (length (dep_pairs h l)))
    (over (list_finding_list h l) fs) (over (both_lists h l) ps)))

-- "A call of its own": of the trace s, with buffers that hold fs and ps; "this call has 2 to 11 with 17 among them, then 12, 13"
unfoldable pub lists_of_read : List ℕ → Reading → List ℕ → List ℕ → ListOutcome
lists_of_read s (refused n p) fs ps = list_outcome (lists_refused n p) fs ps
lists_of_read s (read h notes) fs ps = told_lists h (lists_in s h) fs ps

unfoldable pub judged_lists : List ℕ → List ℕ → List ℕ → ListOutcome
judged_lists s fs ps = lists_of_read s (reading s) fs ps
