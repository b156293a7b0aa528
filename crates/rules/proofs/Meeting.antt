-- Which open transaction a record meets, by the edition.
use Prim.Native.Nat.{ℕ}
use mathlib.Core.Path.{◌≡◌}
use mathlib.Core.Bool.{true, false}
use mathlib.Core.List.{List}
use Rattle.base.proofs.Tests.{pick_on, pick_off}
use Rattle.rules.specs.History.{History, current, open_of, any_open}
use Rattle.rules.specs.Records.{is_second, session_at}
use Rattle.rules.specs.Reading.{State, event_in, is_end, met_by, met_in, met}
use Rattle.rules.specs.declared.Event.{Event}

module _ (s : List ℕ) (st : State) where
  pub met-first : is_second s ≡ false → met s st ≡ current st.history
  unfolding met met_in
  met-first e = pick_off (is_second s) (met_by st.history (session_at s st.at) (event_in s st)) (current st.history) e

  pub met-second : is_second s ≡ true → met s st ≡ met_by st.history (session_at s st.at) (event_in s st)
  unfolding met met_in
  met-second e = pick_on (is_second s) (met_by st.history (session_at s st.at) (event_in s st)) (current st.history) e

-- an end meets any open one, every other event the one of its session
module _ (h : History) (n : ℕ) (e : Event) where
  pub met_end : is_end e ≡ true → met_by h n e ≡ any_open h
  unfolding met_by
  met_end t = pick_on (is_end e) (any_open h) (open_of h n) t

  pub met-session : is_end e ≡ false → met_by h n e ≡ open_of h n
  unfolding met_by
  met-session t = pick_off (is_end e) (any_open h) (open_of h n) t
