-- Events put from the last one down, and a history's events, from the last one down.
use Rattle.std.proofs.Common.{◌≡◌, ℕ, ◌+◌, ◌-◌, ◌%◌, ◌^◌, ◌<◌, ◌≤◌, true, false, eqb, List, [], ◌∷◌, ◌++◌, map, length, sym, refl, ap, ◌∙◌, ⊎_elim, append_assoc, append-nil, arith, length-append, eq-eqb}
use Rattle.base.specs.Base.{last, listed}
use Rattle.base.proofs.Tests.{split, pick_on, pick_off}
use Rattle.base.proofs.Searches.{listed_more, listed_below, listed_end}
use Rattle.base.proofs.Chains.{last-le, last_less, last_none}
use Rattle.base.proofs.Fill.{Appended, appended-none, appended-length, appended-before}
use Rattle.rules.specs.History.{History, Op, tx, op, op_count, size, is_open}
use Rattle.rules.specs.declared.Event.{Event}
use Rattle.rules.specs.declared.Event.TheVariants.{Open, Read, Write, Close}
use Rattle.table.specs.Table.{of_tx, last_of, prev_of, Below}
use Rattle.table.proofs.Chain.{OnChain, chain_last, chain_prev, sought_last, sought_prev}
use Rattle.writing.specs.declared.Form.{Form}
use Rattle.writing.specs.Listing.{op_step, op_step_of, close_step, tx_steps}
use Rattle.writing.specs.Forms.{Marked, mark, form_bytes, formed, tx_block, blocks_of}
use Rattle.writing.proofs.Lengths.{map_append}
use Rattle.writing.proofs.Forms.{form_any, formed-none, formed_one, formed_append, formed-length}
use Rattle.blocks.specs.declared.Place.{Place}
use Rattle.blocks.specs.Blocks.{op_marks, tx_marks, PutBefore, RoomBefore}

-- ── one event ──

module _ {form : Form} {o : List ℕ} {p : Place} {s : ℕ} {e : Event} (h : RoomBefore form o p (mark s e ∷ [])) {len : ℕ} (l : len ≡ length (form_bytes form 0 (mark 0 e))) where
  as_long : (k : ℕ) → length (form_bytes form k (mark s e)) ≡ len
  as_long k = form_any form k s e ∙ sym l

  pub event-fits : len ≤ p.at
  event-fits = omega (arith, h.fits, ap length (formed_one form 0 0 (mark s e)), as_long ((0 + 0) % 2 ^ 32))

  pub event-room : (k : ℕ) → p.at - len + length (form_bytes form k (mark s e)) ≤ length o
  event-room k = omega (arith, as_long k, event-fits, h.within)

  -- one event was put there
  pub event-put : {n m : ℕ} {b : List ℕ} {r : ℕ} → m ≡ (n + (p.count - 1)) % 2 ^ 32 → Appended o (p.at - len) b r (form_bytes form m (mark s e))
      → PutBefore form n o p b (record { at = p.at - len; count = p.count - 1 }) (mark s e ∷ [])
  event-put {n} {m} {r = r} q x =
      let z : r ≡ p.at = omega (arith, x.end, as_long m, event-fits) in
      record { is = rw (formed_one form n (p.count - 1) (mark s e), ← q) (rw z at x); count = omega (arith, h.count) }

-- ── events put one before the other ──

module _ {form : Form} {n : ℕ} {o : List ℕ} {p : Place} where
  pub put-none : p.at ≤ length o → PutBefore form n o p o p []
  put-none l = record { is = rw (formed-none form n p.count) (appended-none o p.at l); count = omega arith }

  -- xs before ys, which had been put
  module _ {b : List ℕ} {q : Place} {ys : List Marked} (y : PutBefore form n o p b q ys) where
    pub put_then : {c : List ℕ} {r : Place} {xs : List Marked} → PutBefore form n b q c r xs → PutBefore form n o p c r (xs ++ ys)
    put_then {r = r} {xs} x =
        record {
          is = rw (formed_append form n r.count xs ys, x.count) (appended-before y.is x.is);
          count = omega (arith, x.count, y.count, length-append xs ys);
        }

    -- room for the rest
    pub room_left : (xs : List Marked) → RoomBefore form o p (xs ++ ys) → RoomBefore form b q xs
    room_left xs h =
        record {
          fits =
              omega
              (arith, h.fits, ap length (formed_append form 0 0 xs ys), length-append (formed form 0 0 xs) (formed form 0 (0 + length xs) ys), formed-length form 0 (0 + length xs) n q.count ys, y.is.end);
          within = omega (arith, y.is.end, y.is.room, appended-length y.is);
          count = omega (arith, h.count, length-append xs ys, y.count);
        }

pub room-last : {form : Form} {o : List ℕ} {p : Place} (xs ys : List Marked) → RoomBefore form o p (xs ++ ys) → RoomBefore form o p ys
room-last {form} xs ys h =
    record {
      fits =
          omega
          (arith, h.fits, ap length (formed_append form 0 0 xs ys), length-append (formed form 0 0 xs) (formed form 0 (0 + length xs) ys), formed-length form 0 (0 + length xs) 0 0 ys);
      within = h.within;
      count = omega (arith, h.count, length-append xs ys);
    }

-- a loop that puts `whole` into o before p has come to r in the buffer, and has `left` to put
pub record Leaving (form : Form) (n : ℕ) (whole : List Marked) (o : List ℕ) (p : Place) (b : List ℕ) (r : Place) (left : List Marked) : Type 0 where
  pub done : List Marked
  pub is : PutBefore form n o p b r done
  pub rest : left ++ done ≡ whole

module _ {form : Form} {n : ℕ} {whole : List Marked} {o : List ℕ} {p : Place} where
  pub leaving_start : RoomBefore form o p whole → Leaving form n whole o p o p whole
  leaving_start h = record { done = []; is = put-none h.within; rest = append-nil whole }

  module _ {b : List ℕ} {r : Place} {left : List Marked} (x : Leaving form n whole o p b r left) where
    pub leaving_room : RoomBefore form o p whole → RoomBefore form b r left
    leaving_room h = room_left x.is left (rw x.rest h)

    pub leaving_step : (xs : List Marked) {ys : List Marked} {c : List ℕ} {q : Place} → left ≡ xs ++ ys → PutBefore form n b r c q ys → Leaving form n whole o p c q xs
    leaving_step xs {ys} e y =
        record { done = ys ++ x.done; is = put_then x.is y; rest = sym (append_assoc xs ys x.done) ∙ ap (λ (l : List Marked). l ++ x.done) (sym e) ∙ x.rest }

    pub leaving_end : left ≡ [] → PutBefore form n o p b r whole
    leaving_end e = let q : x.done ≡ whole = ap (λ (l : List Marked). l ++ x.done) (sym e) ∙ x.rest in rw q at x.is

-- ── an operation's event, which is a write or a read ──

module _ (o : Op) where
  pub op_write : o.is_write ≡ true → op_step o ≡ Write o.key o.value
  unfolding op_step
  op_write t = pick_on o.is_write _ _ t

  pub op-read : o.is_write ≡ false → op_step o ≡ Read o.key o.value
  unfolding op_step
  op-read t = pick_off o.is_write _ _ t

-- ── a transaction's operations ──

module _ (h : History) (t : ℕ) where
  op-own : (i : ℕ) → (op h i).tx ≡ t → op_step_of h t i ≡ op_step (op h i) ∷ []
  unfolding op_step_of
  op-own i e = pick_on (eqb (op h i).tx t) _ _ (eq-eqb _ _ e)

  op-other : (i : ℕ) → of_tx h t i ≡ false → op_step_of h t i ≡ []
  unfolding op_step_of of_tx
  op-other i e = pick_off (eqb (op h i).tx t) _ _ e

  -- the last of them, and what is before it
  op_top : {i : ℕ} → 0 < i → (op h i).tx ≡ t → {s : ℕ} → s ≡ (tx h t).session → op_marks h t (i + 1) ≡ op_marks h t i ++ (mark s (op_step (op h i)) ∷ [])
  unfolding op_marks
  op_top {i} l e q =
      rw q
      (ap (map (mark (tx h t).session)) (listed_more (op_step_of h t) i 1 (omega arith) ∙ ap (λ (k : List Event). listed 1 i (op_step_of h t) ++ k) (op-own i e))
      ∙ map_append (mark (tx h t).session) (listed 1 i (op_step_of h t)) (op_step (op h i) ∷ []))

  -- those below n are those up to the last of them
  ops_chain : (n : ℕ) → op_marks h t n ≡ op_marks h t (last (of_tx h t) n + 1)
  unfolding op_marks
  ops_chain n =
      ap (map (mark (tx h t).session))
      (⊎_elim
      (λ l.
      listed_below (op_step_of h t) n (last (of_tx h t) n + 1) 1 (omega arith) (omega (arith, last_less (of_tx h t) n l)) (λ i g b. op-other i (last_none (of_tx h t) n i (omega arith) b)))
      (λ g. listed_end (op_step_of h t) 1 n (omega arith) ∙ sym (listed_end (op_step_of h t) 1 (last (of_tx h t) n + 1) (omega (arith, last-le (of_tx h t) n))))
      (split 0 n))

  ops_none : {i : ℕ} → i ≤ 0 → op_marks h t (i + 1) ≡ []
  unfolding op_marks
  ops_none {i} l = ap (map (mark (tx h t).session)) (listed_end (op_step_of h t) 1 (i + 1) (omega arith))

-- a loop that puts them has come to operation i: those up to i are left
pub record OpsLeft (h : History) (t : ℕ) (form : Form) (n : ℕ) (o : List ℕ) (p : Place) (b : List ℕ) (r : Place) (i : ℕ) : Type 0 where
  pub on : OnChain h t i
  pub leaving : Leaving form n (op_marks h t (op_count h + 1)) o p b r (op_marks h t (i + 1))

module _ {h : History} {t : ℕ} {form : Form} {n : ℕ} {o : List ℕ} {p : Place} where
  pub ops_start : {j : ℕ} → RoomBefore form o p (op_marks h t (op_count h + 1)) → Below j (last_of h t) (op_count h + 1) → OpsLeft h t form n o p o p j
  ops_start x b = record { on = chain_last b; leaving = rw (← sought_last h t (op_marks h t) (ops_chain h t) b) (leaving_start x) }

  module _ {b : List ℕ} {r : Place} {i : ℕ} (x : OpsLeft h t form n o p b r i) (l : 0 < i) {s : ℕ} (e : s ≡ (tx h t).session) where
    top : op_marks h t (i + 1) ≡ op_marks h t i ++ (mark s (op_step (op h i)) ∷ [])
    top = op_top h t l (x.on.of l) e

    pub op_room : RoomBefore form o p (op_marks h t (op_count h + 1)) → RoomBefore form b r (mark s (op_step (op h i)) ∷ [])
    op_room w = room-last (op_marks h t i) _ (rw top at (leaving_room x.leaving w))

    pub ops_next : {c : List ℕ} {q : Place} {j : ℕ} → PutBefore form n b r c q (mark s (op_step (op h i)) ∷ []) → Below j (prev_of h i) i → OpsLeft h t form n o p c q j
    ops_next y d =
        record {
          on = chain_prev x.on l d;
          leaving =
              leaving_step x.leaving _
              (top ∙ ap (λ (k : List Marked). k ++ (mark s (op_step (op h i)) ∷ [])) (sought_prev h t (op_marks h t) (ops_chain h t) (x.on.of l) d)) y;
        }

  pub ops_end : {b : List ℕ} {r : Place} {i : ℕ} → OpsLeft h t form n o p b r i → i ≤ 0 → PutBefore form n o p b r (op_marks h t (op_count h + 1))
  ops_end x l = leaving_end x.leaving (ops_none h t l)

-- ── a transaction ──

-- one that is not open: its open, its operations, its close, where its session s and its status x are known from elsewhere
module _ (h : History) (t : ℕ) (n : is_open h t ≡ false) {s x : ℕ} (e : s ≡ (tx h t).session) (i : x ≡ (tx h t).status) where
  abbrev opening : List Marked
  opening = mark s (Open s) ∷ []

  abbrev inside : List Marked
  inside = op_marks h t (op_count h + 1)

  abbrev closing : List Marked
  closing = mark s (Close x) ∷ []

  tx_parts : tx_block h t ≡ (opening ++ inside) ++ closing
  unfolding tx_block tx_steps close_step op_marks
  tx_parts =
      rw (e, i)
      (ap (λ (l : List Marked). mark (tx h t).session (Open (tx h t).session) ∷ l)
      (map_append (mark (tx h t).session) (listed 1 (op_count h + 1) (op_step_of h t)) (close_step h t)
      ∙ rw (pick_off (is_open h t) [] (Close (tx h t).status ∷ []) n)))

  -- the three, from the last to the first
  module _ {form : Form} {o : List ℕ} {p : Place} (w : RoomBefore form o p (tx_block h t)) where
    parts_room : RoomBefore form o p ((opening ++ inside) ++ closing)
    parts_room = rw tx_parts at w

    pub close_room : RoomBefore form o p closing
    close_room = room-last (opening ++ inside) closing parts_room

    module _ {m : ℕ} {b : List ℕ} {r : Place} (y : PutBefore form m o p b r closing) where
      pub ops_room : RoomBefore form b r inside
      ops_room = room-last opening inside (room_left y (opening ++ inside) parts_room)

      pub open_room : {c : List ℕ} {q : Place} → PutBefore form m b r c q inside → RoomBefore form c q opening
      open_room z = room_left z opening (room_left y (opening ++ inside) parts_room)

  pub tx-put : {form : Form} {m : ℕ} {o b c d : List ℕ} {p r q u : Place} → PutBefore form m o p b r closing → PutBefore form m b r c q inside
      → PutBefore form m c q d u opening → PutBefore form m o p d u (tx_block h t)
  tx-put y z w = rw tx_parts (put_then y (put_then z w))

-- ── all transactions ──

module _ (h : History) where
  pub txs_all : blocks_of h ≡ tx_marks h (size h)
  unfolding tx_marks blocks_of
  txs_all = refl

  -- the last of those up to t, and what is before it
  pub txs_top : (t : ℕ) → 0 < t → tx_marks h (t + 1) ≡ tx_marks h (t - 1 + 1) ++ tx_block h t
  unfolding tx_marks
  txs_top t l = let e : t - 1 + 1 ≡ t = omega arith in rw e (listed_more (tx_block h) t 1 l)

  pub txs_room : {form : Form} {b : List ℕ} {r : Place} {t : ℕ} → 0 < t → RoomBefore form b r (tx_marks h (t + 1)) → RoomBefore form b r (tx_block h t)
  txs_room {t = t} l w = room-last (tx_marks h (t - 1 + 1)) (tx_block h t) (rw (txs_top t l) at w)

  pub txs_none : (t : ℕ) → t ≤ 0 → tx_marks h (t + 1) ≡ []
  unfolding tx_marks
  txs_none t l = listed_end (tx_block h) 1 (t + 1) (omega arith)
