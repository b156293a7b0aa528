-- The trace with each status 2 replaced by the chosen one: it is what the condition says and nothing else is, and it is read into the history with the
-- chosen outcomes. A refused trace stays refused, with the same number and place.
use Prim.Native.Nat.{ℕ, zero, suc, ◌+◌, ◌<◌, ◌≤◌}
use mathlib.Core.Path.{◌≡◌, refl, ap, sym, ◌∙◌}
use mathlib.Core.Bool.{Bool, true}
use mathlib.Core.List.{List}
use native.Mathlib.Omega.{arith}
use native.Mathlib.Numerals.{add-one}
use lib.Dec.{ltb}
use lib.ListN.{length, get_or}
use lib.Seq.{ext_get_or}
use borrow.Author.Tests.{le-ltb}
use Rattle.base.specs.Base.{numbered}
use Rattle.base.proofs.Tests.{clash, pick_of}
use Rattle.rules.specs.Records.{is_second, fields_at}
use Rattle.rules.specs.Reading.{State, begin, event_in, refusal_no, after, refused, walk, reading}
use Rattle.rules.proofs.Walking.{by_turn}
use Rattle.demand1.specs.Rows.{kind, Passes, Whose, Reaches, start, on}
use Rattle.demand1.proofs.Events.{passes_framed, exactly}
use Rattle.demand1.proofs.Agree.{agree_second}
use Rattle.demand1.proofs.Steps.{whose_one, close_of, next-is, next-after, next-not_end, not_end, is_end_lem, after_within}
use Rattle.demand1.proofs.Sessions.{one_open_each}
use Rattle.demand1.proofs.Refusals.{refusal-none}
use Rattle.choices.specs.Choices.{outcome_of, chosen, chosen_reading, is_unanswered_close, chosen_at, chosen_from, chosen_bytes, Unanswered, Answered}
use Rattle.choices.proofs.Agree.{same_byte}
use Rattle.choices.proofs.Turns.{none-refuses}
use Rattle.choices.proofs.Replaced.{unanswered_close, close_unanswered, status_within, at-status, at_other, from_refused, from_end, from_on, from_length, from_before}
use Rattle.choices.proofs.Walks.{walk-by}

module _ (f : ℕ → Bool) (s : List ℕ) where
  answered-length : length (chosen_bytes f s) ≡ length s
  unfolding chosen_bytes
  answered-length = from_length f s (length s + 1) begin

  -- the first record stays, and with it the edition
  answered-second : is_second (chosen_bytes f s) ≡ is_second s
  unfolding chosen_bytes
  answered-second =
      agree_second
      (record { long = answered-length; same = λ i l h. from_before f s (length s + 1) begin i (omega arith) (λ _ q. omega arith) })

  -- ── it is read into the chosen history ──

  walk-answered : walk (length s + 1) (chosen_bytes f s) begin ≡ chosen_reading f (walk (length s + 1) s begin)
  unfolding chosen_bytes chosen numbered
  walk-answered = walk-by f s (length s + 1) begin (chosen_bytes f s) (record { long = answered-length; second = answered-second; same = λ i l. refl })

  pub reading-chosen : reading (chosen_bytes f s) ≡ chosen_reading f (reading s)
  unfolding reading chosen_reading
  reading-chosen =
      rw (answered-length, walk-answered)
      (sym (pick_of (chosen_reading f) (ltb 32768 (length s)) (refused 2 32768) (walk (length s + 1) s begin)))

  -- ── it is what the condition says ──

  -- a record that passes and is not the end
  from_past : (k : ℕ) (st : State) → Passes s st → (kind s st.at ≡ 5 → ⊥)
      → chosen_from (suc k) f s st ≡ chosen_at f s st (chosen_from k f s (after s st))
  from_past k st p d = from_on f s k st (le-ltb 0 (refusal_no s st) (omega (arith, (refusal-none s st).1 p))) (not_end s st p d)

  -- a byte of the trace with the chosen outcomes is what it is from a state on that reading comes to, with fuel for what is left
  byte_from : {st : State} → Reaches s st → (i v : ℕ) → st.at + 8 ≤ i
      → ((k : ℕ) → length s < st.at + suc k → get_or (chosen_from (suc k) f s st) i 0 ≡ v) → get_or (chosen_bytes f s) i 0 ≡ v
  unfolding chosen_bytes
  byte_from start i v l h = rw (add-one (length s)) (h (length s) (omega arith))
  byte_from (on {st} {next} r p n) i v l h =
      byte_from r i v (omega (arith, moved, room.0))
      (λ k m.
      same_byte i (from_past k st p (next-not_end n))
      ∙ at_other f s st (chosen_from k f s (after s st)) i (λ u q. omega (arith, moved, status_within s st p u)) ∙ later k m)
    where
      room : (st.at + 8 ≤ (after s st).at) × ((after s st).at ≤ length s)
      room = after_within s st p

      same : next ≡ after s st
      same = next-is s st p (one_open_each r) n

      moved : next.at ≡ (after s st).at
      moved = ap (λ (x : State). x.at) same

      later : (k : ℕ) → length s < st.at + suc k → get_or (chosen_from k f s (after s st)) i 0 ≡ v
      later zero m = absurd (omega (arith, room.0, room.1))
      later (suc k) m = ap (λ (x : State). get_or (chosen_from (suc k) f s x) i 0) (sym same) ∙ h k (omega (arith, moved, room.0))

  -- the status of a close that is reached
  replaced : (st : State) (t : ℕ) → Unanswered s st → Whose s st t → get_or (chosen_bytes f s) (fields_at s st.at) 0 ≡ outcome_of f t
  replaced st t u w =
      byte_from u.reached (fields_at s st.at) (outcome_of f t) (omega arith)
      (λ k m.
      same_byte (fields_at s st.at) (from_past k st p (λ q. omega (arith, u.closes)))
      ∙ at-status f s st (chosen_from k f s (after s st)) c
      (omega (arith, from_length f s k (after s st), status_within s st p c, (after_within s st p).1))
      ∙ ap (outcome_of f) (whose_one (one_open_each u.reached) (close_of s st p u.closes) w))
    where
      p : Passes s st
      p = u.passes

      c : is_unanswered_close (event_in s st) ≡ true
      c = close_unanswered (passes_framed st p) u.closes u.unanswered

  -- any other byte
  module _ (i : ℕ) (d : (st : State) → Unanswered s st → i ≡ fields_at s st.at → ⊥) where
    at_elsewhere : {st : State} → Reaches s st → Passes s st → (b : List ℕ) → get_or (chosen_at f s st b) i 0 ≡ get_or b i 0
    at_elsewhere {st} r p b =
        at_other f s st b i
        (λ t. let c = unanswered_close (passes_framed st p) t in d st (record { reached = r; passes = p; closes = c.0; unanswered = c.1 }))

    from_elsewhere : (k : ℕ) {st : State} → Reaches s st → get_or (chosen_from k f s st) i 0 ≡ get_or s i 0
    unfolding chosen_from
    from_elsewhere zero r = refl
    from_elsewhere (suc k) {st} r =
        by_turn s st (λ t. same_byte i (from_refused f s k st t)) (λ t e. same_byte i (from_end f s k st e))
        (λ t e.
        let p = none-refuses s st t in
        same_byte i (from_on f s k st t e) ∙ at_elsewhere r p (chosen_from k f s (after s st))
        ∙ from_elsewhere k (on r p (next-after s st p (λ q. clash (is_end_lem s st p q) e))))

  pub answered-is : Answered f s (chosen_bytes f s)
  unfolding chosen_bytes
  answered-is =
      record {
        same_length = answered-length;
        replaced = replaced;
        elsewhere = λ i d. from_elsewhere i d (length s + 1) start;
      }

  -- .. and nothing else is
  pub answered_one : (a b : List ℕ) → Answered f s a → Answered f s b → a ≡ b
  answered_one a b x y =
      ext_get_or 0 a b (x.same_length ∙ sym y.same_length)
      (λ i _.
      exactly (get_or a i 0) (get_or b i 0)
      (λ d.
      let none : (st : State) → Unanswered s st → i ≡ fields_at s st.at → ⊥ =
      λ st u e. let w = close_of s st u.passes u.closes in d (rw e (x.replaced st _ u w ∙ sym (y.replaced st _ u w))) in
      d (x.elsewhere i none ∙ sym (y.elsewhere i none))))

  -- whatever meets the condition is read so
  pub answered-reading : {b : List ℕ} → Answered f s b → reading b ≡ chosen_reading f (reading s)
  answered-reading {b} x = ap reading (answered_one b (chosen_bytes f s) x answered-is) ∙ reading-chosen
