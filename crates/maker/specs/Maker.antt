-- What the functions answer that follow steps into a table.
use Rattle.std.specs.Prelude.{◌≡◌, ℕ, List, Result, Ok, Err}
use Rattle.rules.specs.History.{History, current, empty}
use Rattle.rules.specs.Reading.{entered}
use Rattle.rules.specs.Refusals.{cause_no, no_of}
use Rattle.rules.specs.declared.Cause.{Cause}
use Rattle.rules.specs.declared.Event.{Event}
use Rattle.rules.specs.declared.Refusal.{Refusal}
use Rattle.table.specs.Table.{history_of, Held}
use Rattle.writing.specs.Steps.{steps_in}
use Rattle.writing.specs.Writing.{write_no, end_no, Followed, bad, good, follow}

-- the answer r to the step e, which made g2 of the table g
pub record Entered (r : Result Unit Cause) (g2 g : List ℕ) (e : Event) : Type 0 where
  pub is : no_of r ≡ write_no (history_of g) e
  pub history : no_of r ≡ 0 → history_of g2 ≡ entered (history_of g) (current (history_of g)) e
  pub held : Held g2

-- .. to the end record
pub record Ended (r : Result Unit Cause) (g2 g : List ℕ) : Type 0 where
  pub is : no_of r ≡ end_no (history_of g)
  pub history : history_of g2 ≡ history_of g
  pub held : Held g2

-- an answer as the definition has it, where the table holds h
unfoldable pub followed_as : Result Unit Refusal → History → Followed
followed_as (Ok u) h = good h
followed_as (Err d) h = bad (cause_no d.cause) d.place

-- the answer r to the steps s, which are followed into the table g
pub record FollowedInto (r : Result Unit Refusal) (g s : List ℕ) : Type 0 where
  pub is : follow empty 1 (steps_in s) ≡ followed_as r (history_of g)
  pub held : Held g

-- the table g holds the history of the steps s, which no row refuses
pub record Makes (g s : List ℕ) : Type 0 where
  pub is : follow empty 1 (steps_in s) ≡ good (history_of g)
  pub held : Held g
