-- In a history that grew step by step a record of edition 2 meets the transaction that one of edition 1 meets.
use Prim.Native.Nat.{ℕ, ◌<◌, ◌≤◌}
use mathlib.Core.Path.{◌≡◌, refl, sym, ◌∙◌}
use mathlib.Core.Bool.{true}
use mathlib.Core.List.{List}
use mathlib.Core.Logic.{⊎_elim}
use native.Mathlib.Omega.{arith}
use Rattle.base.proofs.Tests.{ifso, split}
use Rattle.rules.specs.History.{History, Op, tx, tx_count, current, with_op, open_of, any_open}
use Rattle.rules.specs.Records.{is_second, session_at}
use Rattle.rules.specs.Reading.{State, entered, is_end, event_in, met}
use Rattle.rules.specs.declared.Event.{Event}
use Rattle.rules.specs.declared.Event.TheVariants.{Open, Read, Write, Close, End, Note, Other}
use Rattle.rules.proofs.History.{with_op-tx, open_count_lem, open_old, open_new, close_count, close_other}
use Rattle.rules.proofs.Meeting.{met-first, met-second, met_end, met-session}
use Rattle.demand1.specs.Lawful.{IsTx}
use Rattle.demand1.specs.Rows.{OpenOf}
use Rattle.demand1.proofs.Events.{same_or}
use Rattle.demand1.proofs.Histories.{inside-current, current-inside, open_found, open_known, any_found, any_known}
use Rattle.writing.proofs.Rows.{open_taken, read_taken, write_taken, close_taken}
use Rattle.writing.proofs.Grown.{Grown, grown_none, grown_step, empty-current, close_current, latest}
use Rattle.writing.proofs.Marks.{session_after, session_past, behind_more}

-- ── what holds of every history that has grown ──

-- a transaction that is open is the latest
abbrev pub Lone : History → Type 0
Lone h = (t : ℕ) → IsTx h t → (tx h t).status ≡ 3 → t ≡ tx_count h

-- one operation more
lone_op : (h : History) (o : Op) → Lone h → Lone (with_op h o)
unfolding with_op
lone_op h o a t i e = a t (record { from = i.from; to = i.to }) (rw (with_op-tx h o t) at e)

pub lone : {es : List Event} {h : History} → Grown es h → Lone h
unfolding entered
lone grown_none t i o = absurd (omega (arith, i.from, i.to))
lone (grown_step {h = h} (Open s) g (open_taken c l)) t i o =
    ⊎_elim (λ k. omega (arith, k, open_count_lem h s, i.to))
    (λ k.
    let q : t ≡ tx_count h = lone g t (record { from = i.from; to = k }) (rw (← open_old h s t k) o) in
    let is : (tx h (tx_count h)).status ≡ 3 = rw (← q, ← open_old h s t k) o in
    absurd (omega (arith, c, q, i.from, inside-current h (omega (arith, q, i.from), is))))
    (split (tx_count h) t)
lone (grown_step {h = h} (Read x v) g (read_taken c l)) t i o = lone_op h _ (λ u j q. lone g u j q) t i o
lone (grown_step {h = h} (Write x v) g (write_taken c p l w)) t i o = lone_op h _ (λ u j q. lone g u j q) t i o
lone (grown_step {h = h} (Close c) g (close_taken p l)) t i o =
    let n = close_count h (current h) c in
    same_or t (current h) (λ e. e ∙ latest h p ∙ sym n)
    (λ d. let k : t ≤ tx_count h = omega (arith, n, i.to) in lone g t (record { from = i.from; to = k }) (rw (← close_other h (current h) c t i.from k d) o) ∙ sym n)
lone (grown_step {es = es} {h = h} (End _) g x5) t i o = elim x5 [ ]
lone (grown_step {es = es} {h = h} Note g x5) t i o = elim x5 [ ]
lone (grown_step {es = es} {h = h} Other g x6) t i o = elim x6 [ ]

-- its session is the one that the steps have come to
op-session : (h : History) (o : Op) → (tx (with_op h o) (tx_count (with_op h o))).session ≡ (tx h (tx_count h)).session
unfolding with_op tx
op-session h o = refl

pub latest-session : {es : List Event} {h : History} → Grown es h → 0 < current h → (tx h (tx_count h)).session ≡ session_past 0 es
unfolding entered session_after
latest-session grown_none l = absurd (omega (arith, empty-current))
latest-session (grown_step {es} {h} (Open s) g (open_taken c k)) l = rw (open_count_lem h s, open_new h s, behind_more 0 es (Open s))
latest-session (grown_step {es} {h} (Read x v) g (read_taken c k)) l = op-session h _ ∙ latest-session g c ∙ sym (behind_more 0 es (Read x v))
latest-session (grown_step {es} {h} (Write x v) g (write_taken c p k w)) l = op-session h _ ∙ latest-session g c ∙ sym (behind_more 0 es (Write x v))
latest-session (grown_step {es} {h} (Close c) g (close_taken p k)) l = absurd (omega (arith, close_current h c p k))
latest-session (grown_step {es = es} {h = h} (End _) g x4) l = elim x4 [ ]
latest-session (grown_step {es = es} {h = h} Note g x4) l = elim x4 [ ]
latest-session (grown_step {es = es} {h = h} Other g x5) l = elim x5 [ ]

-- ── which one is met ──

module _ (h : History) (only : Lone h) where
  -- a number that is an open transaction's, or 0 where none is open
  sole : {n t : ℕ} → (0 < t → OpenOf h n t) → (0 < current h → 0 < t) → t ≡ current h
  sole {t = t} a b =
      ⊎_elim
      (λ l.
      let o = a l in
      let q : t ≡ tx_count h = only t o.is_tx o.is_open in
      q ∙ sym (inside-current h (omega (arith, q), rw q at o.is_open)))
      (λ z. ⊎_elim (λ l. absurd (omega (arith, b l))) (λ k. omega arith) (split 0 (current h))) (split 0 t)

  -- the latest is one of its session
  latest_open : {n : ℕ} → (0 < current h → (tx h (tx_count h)).session ≡ n) → 0 < current h → OpenOf h n (tx_count h)
  latest_open s l = let i = current-inside h l in record { is_tx = record { from = i.0; to = omega arith }; of_session = s l; is_open = i.1 }

  met_any : any_open h ≡ current h
  met_any = sole (any_found h) (λ l. any_known h (latest_open (λ _. refl) l))

  met-own : (n : ℕ) → (0 < current h → (tx h (tx_count h)).session ≡ n) → open_of h n ≡ current h
  met-own n s = sole (open_found h n) (λ l. open_known h (latest_open s l))

-- .. by a record, in either edition
pub met-current : (b : List ℕ) (st : State) → Lone st.history
    → (is_second b ≡ true → 0 < current st.history → (tx st.history (tx_count st.history)).session ≡ session_at b st.at) → met b st ≡ current st.history
met-current b st only s =
    let h = st.history in
    let n = session_at b st.at in
    let e = event_in b st in
    ifso (is_second b) (λ t. met-second b st t ∙ ifso (is_end e) (λ y. met_end h n e y ∙ met_any h only) (λ y. met-session h n e y ∙ met-own h only n (s t)))
    (λ t. met-first b st t)
