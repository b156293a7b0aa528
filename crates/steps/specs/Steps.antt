-- What an event does to the table's words, and how the reading goes on behind it.
use Rattle.std.specs.Prelude.{ℕ, ◌≤◌, ◌<◌, ◌≡◌, true, false, List, [], ◌∷◌, ltb, leb, eqb, Result, Ok, Err}
use Rattle.base.specs.Base.{pick, Row, row, first_fit}
use Rattle.rules.specs.History.{History, op_count, write_of, is_single}
use Rattle.rules.specs.Records.{written_key}
use Rattle.rules.specs.Reading.{step_rows, entered}
use Rattle.rules.specs.Refusals.{numbered}
use Rattle.rules.specs.declared.Cause.{Cause}
use Rattle.rules.specs.declared.Event.{Event}
use Rattle.rules.specs.declared.Event.TheVariants.{Open, Read, Write, Close, End, Note, Other}
use Rattle.table.specs.Table.{history_of, Held, put_tx, close_tx, put_op}
use Rattle.steps.specs.declared.Next.{Next}
use Rattle.steps.specs.declared.Next.TheVariants.{Go, Count, List as Lists, Done}

-- what a lawful event writes into the table g, where t is the open transaction
unfoldable pub put : List ℕ → ℕ → Event → List ℕ
put g t (Open s) = put_tx g s
put g t (Read x v) = put_op g (record { tx = t; is_write = false; key = x; value = v })
put g t (Write x v) = put_op g (record { tx = t; is_write = true; key = x; value = v })
put g t (Close c) = close_tx g t c
put g t (End n) = g
put g t Note = g
put g t Other = g

-- how the reading goes on behind a lawful event
unfoldable pub goes : Event → Next
goes (Open s) = Go
goes (Read x v) = Go
goes (Write x v) = pick (is_single x) Go Lists
goes (Close c) = Go
goes (End n) = Done
goes Note = Count
goes Other = Go

-- the number of the first row, 7 to 10, that refuses the event e; 0 where none does
unfoldable pub step_no : History → ℕ → Event → ℕ
step_no h t e = first_fit (step_rows h t e)

-- rows 7, 8 and 9 of a write of v, to whatever key
unfoldable pub held_rows : History → ℕ → ℕ → List Row
held_rows h t v = row (eqb t 0) 7 ∷ row (eqb v 0) 8 ∷ row (leb 1024 (op_count h)) 9 ∷ []

-- an event that may be taken: its key fits, and no list read stands where it stands
pub record Takable (h : History) (e : Event) : Type 0 where
  pub narrow : written_key e < 17179869184
  pub new_place : (x v : ℕ) → e ≡ Write x v → 8589934592 ≤ x → 0 < v → write_of h x v ≡ 0

-- the answer r to the event e, whose step made g2 of the table g: a refusal changes nothing
pub record Took (r : Result Next Cause) (g2 g : List ℕ) (t : ℕ) (e : Event) : Type 0 where
  pub is : numbered r ≡ pick (ltb 0 (step_no (history_of g) t e)) (Err (step_no (history_of g) t e)) (Ok (goes e))
  pub words : g2 ≡ pick (ltb 0 (step_no (history_of g) t e)) g (put g t e)
  pub history : history_of g2 ≡ pick (ltb 0 (step_no (history_of g) t e)) (history_of g) (entered (history_of g) t e)
  pub held : Held g2
