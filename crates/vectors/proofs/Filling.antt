-- The rows filled in a sequence.
use Prim.Native.Nat.{ℕ, ◌+◌, ◌<◌, ◌≤◌}
use mathlib.Core.Path.{◌≡◌, sym, ◌∙◌}
use mathlib.Core.List.{List}
use mathlib.Core.Logic.{⊎_elim}
use native.Mathlib.Omega.{arith}
use lib.ListN.{length, get_or, take}
use lib.Seq.{length-take-le}
use Rattle.std.proofs.Common.{get_or-take}
use Rattle.base.proofs.Tests.{split}
use Rattle.vectors.specs.Vectors.{Columns, RowPrepared, Finished, Sequence, AllFilled, Zeros}

module _ {f c o : List ℕ} {k : ℕ} (w : Sequence f o k) where
  pub filled_start : {v : List ℕ} → Zeros v → AllFilled f c o 0 v
  filled_start z = record { room = z.room; done = λ j l. absurd (omega arith); left = λ x s hx hs d. z.is x s hx hs }

  pub filled_turn : {v : List ℕ} {width : ℕ} (i : ℕ) → i < k → Columns c width → AllFilled f c o i v → RowPrepared f c (get_or o i 0) width v
  filled_turn i l col g =
      record {
        room = g.room;
        columns = col;
        here = w.below i l;
        start = w.start;
        empty = λ s hs. g.left (get_or o i 0) s (w.below i l) hs (λ j m e. w.once j i m l e);
        before =
            λ q hq b.
            let r = w.after i q l hq b in
            (λ e. w.once r.0 i r.1 l (r.2 ∙ e), rw r.2 at (g.done r.0 r.1));
      }

  pub filled_step : {v u : List ℕ} (i : ℕ) → i < k → AllFilled f c o i v → Finished f c (get_or o i 0) v u → AllFilled f c o (i + 1) u
  filled_step {v} {u} i l g h =
      record {
        room = h.room;
        done =
            λ j m.
            ⊎_elim
            (λ (b : j < i).
            record { is = λ s hs. rw (h.others (get_or o j 0) s (w.below j (omega arith)) hs (λ e. w.once j i b l e)) ((g.done j b).is s hs) })
            (λ b. let e : j ≡ i = omega arith in rw e h.row) (split j i);
        left = λ x s hx hs d. h.others x s hx hs (λ e. d i (omega arith) (sym e)) ∙ g.left x s hx hs (λ j m. d j (omega arith));
      }

-- ── the first k of o, as a list of their own ──

module _ (o : List ℕ) (k : ℕ) (room : k ≤ length o) where
  front : length (take k o) ≡ k
  front = length-take-le k o room

  byte : (i : ℕ) → i < k → get_or (take k o) i 0 ≡ get_or o i 0
  byte i l = get_or-take k o i 0 l

  pub sequence_front : {f : List ℕ} → Sequence f o k → Sequence f (take k o) (length (take k o))
  sequence_front w =
      rw front
      (record {
        few = w.few;
        below = λ i l. rw (byte i l) (w.below i l);
        once = λ i j a b e. w.once i j a b (sym (byte i (omega arith)) ∙ e ∙ byte j b);
        after =
            λ i q l hq b.
            let r = w.after i q l hq (rw (byte i l) at b) in
            (r.0, r.1, byte r.0 (omega arith) ∙ r.2);
        start = w.start;
      })

  pub filled_front : {f c v : List ℕ} → AllFilled f c (take k o) (length (take k o)) v → AllFilled f c o k v
  filled_front {f} {c} {v} g =
      let h : AllFilled f c (take k o) k v = rw front at g in
      record {
        room = h.room;
        done = λ i l. rw (byte i l) at (h.done i l);
        left = λ x s hx hs d. h.left x s hx hs (λ i l e. d i l (sym (byte i l) ∙ e));
      }
