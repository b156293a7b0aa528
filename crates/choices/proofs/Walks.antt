-- Reading goes through bytes that have the chosen statuses from a state on as it goes through the trace, with the chosen outcomes.
use Prim.Native.Nat.{ℕ, zero, suc, ◌+◌, ◌<◌, ◌≤◌}
use mathlib.Core.Path.{◌≡◌, refl, ap, sym, ◌∙◌}
use mathlib.Core.Bool.{Bool, true, false}
use mathlib.Core.List.{List}
use native.Mathlib.Omega.{arith}
use lib.Dec.{ltb}
use lib.ListN.{length, get_or}
use Rattle.base.proofs.Tests.{ifso}
use Rattle.rules.specs.Numbers.{le}
use Rattle.rules.specs.Records.{is_second, fields_from, fields_at, event_at}
use Rattle.rules.specs.Reading.{State, event_in, met, refusal_no, is_end, after, refused, finished, walk}
use Rattle.rules.specs.declared.Event.TheVariants.{Close}
use Rattle.rules.proofs.Walking.{walk_refused, walk_end, walk_on, by_turn}
use Rattle.demand1.specs.Rows.{kind, status, Passes}
use Rattle.demand1.proofs.Events.{Framed, passes_framed, close_event}
use Rattle.demand1.proofs.Agree.{Agree, agree_le, agree_kind, agree_event}
use Rattle.demand1.proofs.Steps.{after_within}
use Rattle.choices.specs.Choices.{outcome_of, chosen_reading, is_unanswered_close, chosen_at, chosen_from}
use Rattle.choices.proofs.Chosen.{status-chosen}
use Rattle.choices.proofs.Agree.{same_byte, SameFront, agree_framed}
use Rattle.choices.proofs.Turns.{none-refuses, event_by, event-kept, end_kept, chosen_state, refusal-same, refusal-by, end_by, after-by, finished-by}
use Rattle.choices.proofs.Replaced.{unanswered_close, status_within, keeping, at-status, at_other, from_refused, from_end, from_on, from_length, from_before}

-- a number of one byte
one_byte : (s : List ℕ) (at : ℕ) → le 1 s at ≡ get_or s at 0
unfolding le
one_byte s at = omega arith

module _ (f : ℕ → Bool) (s : List ℕ) where
  -- b goes on from a state as the trace with the chosen outcomes does
  pub record GoesOn (k : ℕ) (st : State) (b : List ℕ) : Type 0 where
    pub long : length b ≡ length s
    pub second : is_second b ≡ is_second s
    pub same : (i : ℕ) → st.at ≤ i → get_or b i 0 ≡ get_or (chosen_from k f s st) i 0

  module _ (k : ℕ) (st : State) (b : List ℕ) (g : GoesOn k st b) where
    -- the bytes of the record there are those of s but for a close's status
    near : (a e : ℕ) → st.at ≤ a → e ≤ st.at + 16 → ((i : ℕ) → i < e → kind s st.at ≡ 4 → i ≡ fields_at s st.at → ⊥) → Agree s b a e
    near a e m n d =
        record { long = g.long; same = λ i l h. g.same i (omega arith) ∙ from_before f s k st i (omega arith) (d i h) }

    -- the two bytes behind the header, where no status of a close is among them
    front : (kind s st.at ≡ 4 → is_second s ≡ true) → le 2 b (st.at + 8) ≡ le 2 s (st.at + 8)
    front d =
        agree_le
        (near (st.at + 8) (st.at + 10) (omega arith) (omega arith) (λ i l c q. let z : i ≡ st.at + 8 + 2 = rw (d c) at q in omega arith)) 2
        (st.at + 8) (omega arith) (omega arith)

    -- so header and session stay
    same-front : SameFront s b st.at
    same-front =
        record {
          head = record {
            header = near st.at (st.at + 8) (omega arith) (omega arith) (λ i l _ q. omega arith);
            second = g.second;
            says = λ k. front (λ c. absurd (omega arith));
            counts =
                λ k _.
                agree_le (near (st.at + 14) (st.at + 16) (omega arith) (omega arith) (λ i l c _. omega arith)) 2 (st.at + 14) (omega arith) (omega arith);
          };
          of_session = λ e. front (λ _. e);
        }

    -- where nothing is left to replace, the whole record is
    stays : chosen_from k f s st ≡ s → event_at b st.at ≡ event_at s st.at
    stays q = agree_event same-front.head (record { long = g.long; same = λ i l h. g.same i l ∙ same_byte i q })

  -- ── a record that passes and is not the end ──

  module _ (k : ℕ) (st : State) (b : List ℕ) (g : GoesOn (suc k) st b) (t : ltb 0 (refusal_no s st) ≡ false) (e : is_end (event_in s st) ≡ false) where
    passes : Passes s st
    passes = none-refuses s st t

    framed : Framed s st.at
    framed = passes_framed st passes

    abbrev behind : List ℕ
    behind = chosen_from k f s (after s st)

    -- its bytes, and those behind it
    byte : (i : ℕ) → st.at ≤ i → get_or b i 0 ≡ get_or (chosen_at f s st behind) i 0
    byte i l = g.same i l ∙ same_byte i (from_on f s k st t e)

    -- a close with status 2 gets the chosen one
    event_replaced : is_unanswered_close (event_in s st) ≡ true → event_at b st.at ≡ event_by f (met s st) (event_in s st)
    unfolding event_by
    event_replaced u =
        let c = unanswered_close framed u in
        let x = (same-front (suc k) st b g).head in
        let there = fields_at s st.at in
        let room : there < length behind = omega (arith, from_length f s k (after s st), status_within s st passes u, (after_within s st passes).1) in
        let z : status b st.at ≡ outcome_of f (met s st) =
        ap (λ (e : Bool). le 1 b (st.at + 8 + fields_from e)) g.second ∙ one_byte b there ∙ byte there (omega arith) ∙ at-status f s st behind u room in
        close_event (agree_framed x framed) (agree_kind x.header ∙ c.0) ∙ ap Close z
        ∙ sym (ap (event_by f (met s st)) (close_event framed c.0) ∙ ap Close (status-chosen f (met s st) c.1))

    -- any other record stays as it is
    event_stays : is_unanswered_close (event_in s st) ≡ false → event_at b st.at ≡ event_by f (met s st) (event_in s st)
    unfolding after
    event_stays u =
        agree_event (same-front (suc k) st b g).head
        (record {
          long = g.long;
          same = λ i l h. byte i l ∙ same_byte i (keeping f s st behind u) ∙ from_before f s k (after s st) i (omega arith) (λ _ q. omega arith);
        })
        ∙ sym (event-kept f (met s st) (event_in s st) u)

    event : event_at b st.at ≡ event_by f (met s st) (event_in s st)
    event = ifso (is_unanswered_close (event_in s st)) event_replaced event_stays

    -- behind it nothing of it is replaced: b goes on
    beyond : (i : ℕ) → (after s st).at ≤ i → get_or (chosen_at f s st behind) i 0 ≡ get_or behind i 0
    beyond i l = at_other f s st behind i (λ u q. omega (arith, status_within s st passes u))

    goes_on : GoesOn k (after s st) b
    goes_on =
        record {
          long = g.long;
          second = g.second;
          same = λ i l. byte i (omega (arith, (after_within s st passes).0)) ∙ beyond i l;
        }

  -- ── the walk ──

  pub walk-by : (k : ℕ) (st : State) (b : List ℕ) → GoesOn k st b → walk k b (chosen_state f st) ≡ chosen_reading f (walk k s st)
  unfolding walk chosen_reading
  walk-by zero st b g = refl
  walk-by (suc k) st b g =
      by_turn s st
      (λ t.
      let q = refusal-same f st (same-front (suc k) st b g) (stays (suc k) st b g (from_refused f s k st t)) in
      walk_refused b (chosen_state f st) k (ap (ltb 0) q ∙ t) ∙ ap (λ (n : ℕ). refused n st.at) q ∙ sym (ap (chosen_reading f) (walk_refused s st k t)))
      (λ t e.
      let x = same-front (suc k) st b g in
      let q : event_at b st.at ≡ event_by f (met s st) (event_in s st) =
      stays (suc k) st b g (from_end f s k st e) ∙ sym (end_kept f (met s st) (event_in s st) e) in
      walk_end b (chosen_state f st) k (ap (ltb 0) (refusal-by f st x q) ∙ t) (end_by f st x q ∙ e)
      ∙ ap (finished b) (after-by f st x q) ∙ finished-by f s b (after s st) g.long ∙ sym (ap (chosen_reading f) (walk_end s st k t e)))
      (λ t e.
      let x = same-front (suc k) st b g in
      let q = event k st b g t e in
      walk_on b (chosen_state f st) k (ap (ltb 0) (refusal-by f st x q) ∙ t) (end_by f st x q ∙ e)
      ∙ ap (walk k b) (after-by f st x q) ∙ walk-by k (after s st) b (goes_on k st b g t e) ∙ sym (ap (chosen_reading f) (walk_on s st k t e)))
