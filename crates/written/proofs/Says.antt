-- A history that has grown by steps is the one that they say.
use Prim.Native.Nat.{ℕ, ◌+◌, ◌<◌, ◌≤◌}
use mathlib.Core.Path.{◌≡◌, refl, ap, sym, ◌∙◌}
use mathlib.Core.Bool.{true, false}
use mathlib.Core.List.{List, [], ◌∷◌, ◌++◌, map, append_assoc, append-nil, head-eq_of_cons-eq, tail-eq_of_cons-eq}
use native.Mathlib.Omega.{arith}
use lib.ListN.{length, length-append, length-map}
use Rattle.base.specs.Base.{joined}
use Rattle.base.proofs.Empty.{not-empty}
use Rattle.base.proofs.Searches.{joined_append, joined_one}
use Rattle.rules.specs.History.{History, Tx, Op, current, opened, closed, with_op}
use Rattle.rules.specs.Reading.{entered}
use Rattle.rules.specs.declared.Event.{Event}
use Rattle.rules.specs.declared.Event.TheVariants.{Open, Read, Write, Close, End, Note, Other}
use Rattle.rules.proofs.History.{with_op_txs, with_op_ops, open_ops, open_txs, close_ops, close_latest}
use Rattle.writing.proofs.Rows.{open_taken, read_taken, write_taken, close_taken}
use Rattle.writing.proofs.Grown.{Grown, grown_none, grown_step, empty-current, open_current, op-current, close_current, latest}
use Rattle.writing.proofs.Lengths.{map_append}
use Rattle.written.specs.Says.{session_said, status_said, op_said, ops_said, Says}

-- ── one step more ──

module _ {B : Type 0} (f : Event → List B) (es : List Event) (e : Event) where
  -- what the steps say, and what the next one says
  more : joined f (es ++ (e ∷ [])) ≡ joined f es ++ f e
  more = joined_append f es (e ∷ []) ∙ rw (joined_one f e)

  silent : f e ≡ [] → joined f (es ++ (e ∷ [])) ≡ joined f es
  silent z = more ∙ rw z (append-nil (joined f es))

ops_said_lem : (t : ℕ) (es : List Event) (e : Event) → ops_said t (es ++ (e ∷ [])) ≡ ops_said t es ++ op_said (t + length (joined session_said es)) e
unfolding ops_said joined
ops_said_lem t [] e = let z : t + 0 ≡ t = omega arith in rw z (append-nil (op_said t e))
ops_said_lem t (d ∷ es) e =
    let n : t + length (session_said d) + length (joined session_said es) ≡ t + length (session_said d ++ joined session_said es) = omega (arith, length-append (session_said d) (joined session_said es)) in
    rw (ops_said_lem (t + length (session_said d)) es e, n) (sym (append_assoc (op_said t d) (ops_said (t + length (session_said d)) es) (op_said (t + length (session_said d ++ joined session_said es)) e)))

-- ── so far ──

abbrev sessions_of : List Tx → List ℕ
sessions_of = map (λ (t : Tx). t.session)

abbrev statuses_of : List Tx → List ℕ
statuses_of = map (λ (t : Tx). t.status)

-- the statuses: outside a transaction all are said; inside one the latest is open
data StatusesSaid (es : List Event) (h : History) : Type 0 where
  outside : current h ≡ 0 → statuses_of h.txs ≡ joined status_said es → StatusesSaid es h
  inside : 0 < current h → (front : List Tx) (s : ℕ) → h.txs ≡ front ++ (record { session = s; status = 3 } ∷ []) → statuses_of front ≡ joined status_said es
      → StatusesSaid es h

record SaidSoFar (es : List Event) (h : History) : Type 0 where
  pub sessions : sessions_of h.txs ≡ joined session_said es
  pub statuses : StatusesSaid es h
  pub operations : h.ops ≡ ops_said 0 es

module _ (es : List Event) (h : History) (x : SaidSoFar es h) where
  -- a transaction more
  said_open : (s : ℕ) → current h ≡ 0 → SaidSoFar (es ++ (Open s ∷ [])) (opened h s)
  unfolding session_said status_said op_said
  said_open s c =
      record {
        sessions = ap sessions_of (open_txs h s) ∙ map_append (λ (t : Tx). t.session) h.txs (new ∷ []) ∙ rw x.sessions (sym (more session_said es (Open s)));
        statuses = by x.statuses;
        operations = open_ops h s ∙ x.operations ∙ sym (ops_said_lem 0 es (Open s) ∙ append-nil (ops_said 0 es));
      }
    where
      new : Tx
      new = record { session = s; status = 3 }

      by : StatusesSaid es h → StatusesSaid (es ++ (Open s ∷ [])) (opened h s)
      by (outside _ e) = inside (omega (arith, open_current h s)) h.txs s (open_txs h s) (e ∙ sym (silent status_said es (Open s) refl))
      by (inside l front s e f) = absurd (omega arith)

  -- an operation of the open one
  said-op : (e : Event) (o : Op) → 0 < current h → session_said e ≡ [] → status_said e ≡ [] → op_said (current h) e ≡ o ∷ [] → SaidSoFar (es ++ (e ∷ [])) (with_op h o)
  said-op e o l a b c =
      record {
        sessions = ap sessions_of (with_op_txs h o) ∙ x.sessions ∙ sym (silent session_said es e a);
        statuses = by x.statuses;
        operations = with_op_ops h o ∙ rw (x.operations, ← c) (sym (ops_said_lem 0 es e ∙ ap (λ (t : ℕ). ops_said 0 es ++ op_said t e) opened_so_far));
      }
    where
      opened_so_far : 0 + length (joined session_said es) ≡ current h
      opened_so_far = omega (arith, ap length x.sessions, length-map h.txs (λ (t : Tx). t.session), latest h l)

      by : StatusesSaid es h → StatusesSaid (es ++ (e ∷ [])) (with_op h o)
      by (outside z _) = absurd (omega arith)
      by (inside m front s q f) = inside (rw (op-current h o) m) front s (with_op_txs h o ∙ q) (f ∙ sym (silent status_said es e b))

  -- it is closed
  said_close : (c : ℕ) → 0 < current h → c ≤ 2 → SaidSoFar (es ++ (Close c ∷ [])) (closed h (current h) c)
  unfolding session_said status_said op_said
  said_close c l m = by x.statuses
    where
      by : StatusesSaid es h → SaidSoFar (es ++ (Close c ∷ [])) (closed h (current h) c)
      by (outside z _) = absurd (omega arith)
      by (inside _ front s q f) =
          let n = latest h l in
          let e : (closed h (current h) c).txs ≡ front ++ (record { session = s; status = c } ∷ []) = rw n (close_latest h c front (record { session = s; status = 3 }) q) in
          record {
            sessions = ap sessions_of e ∙ map_append (λ (t : Tx). t.session) front (record { session = s; status = c } ∷ [])
                ∙ sym (map_append (λ (t : Tx). t.session) front (record { session = s; status = 3 } ∷ [])) ∙ sym (ap sessions_of q) ∙ x.sessions
                ∙ sym (silent session_said es (Close c) refl);
            statuses = outside (close_current h c l m)
                (ap statuses_of e ∙ map_append (λ (t : Tx). t.status) front (record { session = s; status = c } ∷ []) ∙ rw f (sym (more status_said es (Close c))));
            operations = close_ops h (current h) c ∙ x.operations ∙ sym (ops_said_lem 0 es (Close c) ∙ append-nil (ops_said 0 es));
          }

so_far : {es : List Event} {h : History} → Grown es h → SaidSoFar es h
unfolding entered joined ops_said session_said status_said op_said
so_far grown_none = record { sessions = refl; statuses = outside empty-current refl; operations = refl }
so_far (grown_step {es} {h} (Open s) g (open_taken c l)) = said_open es h (so_far g) s c
so_far (grown_step {es} {h} (Read x v) g (read_taken c l)) = said-op es h (so_far g) (Read x v) (record { tx = current h; is_write = false; key = x; value = v }) c refl refl refl
so_far (grown_step {es} {h} (Write x v) g (write_taken c p l w)) =
    said-op es h (so_far g) (Write x v) (record { tx = current h; is_write = true; key = x; value = v }) c refl refl refl
so_far (grown_step {es} {h} (Close c) g (close_taken p l)) = said_close es h (so_far g) c p l
so_far (grown_step {es = es} {h = h} (End _) g x3) = elim x3 [ ]
so_far (grown_step {es = es} {h = h} Note g x3) = elim x3 [ ]
so_far (grown_step {es = es} {h = h} Other g x4) = elim x4 [ ]

-- outside a transaction it is what they say
pub says : {es : List Event} {h : History} → Grown es h → current h ≡ 0 → Says es h
says {es} {h} g c = by (so_far g).statuses
  where
    by : StatusesSaid es h → Says es h
    by (outside _ e) = record { sessions = (so_far g).sessions; statuses = e; operations = (so_far g).operations }
    by (inside l front s q f) = absurd (omega arith)

-- two histories that the same steps say are one
same_txs : (xs ys : List Tx) → sessions_of xs ≡ sessions_of ys → statuses_of xs ≡ statuses_of ys → xs ≡ ys
same_txs [] [] p q = refl
same_txs [] (y ∷ ys) p q = absurd (not-empty (sym p))
same_txs (x ∷ xs) [] p q = absurd (not-empty p)
same_txs (x ∷ xs) (y ∷ ys) p q =
    let s = head-eq_of_cons-eq p in
    let c = head-eq_of_cons-eq q in
    let first : x ≡ y = λ i. record { session = s i; status = c i } in
    let rest = same_txs xs ys (tail-eq_of_cons-eq p) (tail-eq_of_cons-eq q) in
    λ i. first i ∷ rest i

pub says_one : {es : List Event} {g h : History} → Says es g → Says es h → g ≡ h
says_one {es} {g} {h} x y =
    let t = same_txs g.txs h.txs (x.sessions ∙ sym y.sessions) (x.statuses ∙ sym y.statuses) in
    let o = x.operations ∙ sym y.operations in
    λ i. record { txs = t i; ops = o i }
