-- The fields of steps that come from bytes fit the bytes that records have for them.
use Prim.Native.Nat.{ℕ, zero, suc, ◌+◌, ◌*◌, ◌^◌, ◌<◌, ◌≤◌}
use mathlib.Core.Bool.{Bool, true, false}
use mathlib.Core.List.{List, [], ◌∷◌, ◌++◌}
use mathlib.Core.Logic.{⊎_elim}
use native.Mathlib.Omega.{arith}
use native.Mathlib.Numerals.{unary_clauses}
use lib.ListN.{length, get_or, get_or-append, get_or-eq_default}
use lib.Seq.{get_or-append_seam}
use Rattle.base.specs.Base.{pick}
use Rattle.base.proofs.Tests.{split}
use Rattle.base.proofs.Searches.{singles_length, singles_at}
use Rattle.rules.specs.Numbers.{le}
use Rattle.rules.specs.History.{History}
use Rattle.rules.specs.declared.Event.{Event}
use Rattle.rules.specs.declared.Event.TheVariants.{Open, Read, Write, Close, End, Note, Other}
use Rattle.writing.specs.Steps.{step_of, step_at, step_count, steps_from, steps_in}
use Rattle.writing.proofs.Rows.{Taken, open_taken, read_taken, write_taken, close_taken}
use Rattle.writing.proofs.Marks.{session_after, session_past}
use Rattle.written.specs.Writes.{AllBytes}
use Rattle.written.proofs.Records.{Narrow, narrow_open, narrow_read, narrow_write, narrow_close}

-- but for a status, which a step has two bytes for
unfoldable pub Slim : Event → Type 0
Slim (Open s) = s < 65536
Slim (Read x v) = (x < 4294967296) × (v < 18446744073709551616)
Slim (Write x v) = (x < 4294967296) × (v < 18446744073709551616)
Slim (Close c) = Unit
Slim (End n) = Unit
Slim Note = Unit
Slim Other = Unit

-- a lawful status fits
pub narrow : {h : History} {e : Event} → Taken h e → Slim e → Narrow e
unfolding Slim
narrow (open_taken c l) b = narrow_open b
narrow (read_taken c l) b = narrow_read b.0 b.1
narrow (write_taken c p l w) b = narrow_write b.0 b.1
narrow (close_taken {c} p l) b = narrow_close {c = c} (omega arith)

-- each of them
abbrev pub EachSlim : List Event → Type 0
EachSlim es = (i : ℕ) → Slim (get_or es i Other)

pub slim_other : Slim Other
unfolding Slim
slim_other = tt

-- one less
pub slim_front : (es : List Event) (e : Event) → EachSlim (es ++ (e ∷ [])) → EachSlim es
slim_front es e a i =
    ⊎_elim (λ l. rw (get_or-append es (e ∷ []) Other i l) at (a i)) (λ (g : length es ≤ i). rw (get_or-eq_default es Other {n = i} g) slim_other) (split i (length es))

-- the one that stands behind others
pub slim_at : (es : List Event) (e : Event) (rest : List Event) → EachSlim (es ++ (e ∷ rest)) → Slim e
slim_at es e rest a = rw (get_or-append_seam es e rest Other) at (a (length es))

-- the session that they come to
pub slim_session : {n : ℕ} → n < 65536 → (e : Event) → Slim e → session_after n e < 65536
unfolding Slim session_after
slim_session l (Open s) a = a
slim_session l (Read x v) a = l
slim_session l (Write x v) a = l
slim_session l (Close c) a = l
slim_session l (End m) a = l
slim_session l Note a = l
slim_session l Other a = l

pub slim_sessions : {n : ℕ} → n < 65536 → (es : List Event) → EachSlim es → session_past n es < 65536
unfolding session_past
slim_sessions l [] a = l
slim_sessions {n = n} l (e ∷ es) a = slim_sessions {n = session_after n e} (slim_session l e (a 0)) es (λ i. a (suc i))

-- ── numbers that bytes spell ──

wider : (w x : ℕ) → x < 256 ^ w * 256 → x < 256 ^ suc w
wider w x h = simp unary_clauses h

pub le_below : (w : ℕ) (s : List ℕ) (at : ℕ) → AllBytes s → le w s at < 256 ^ w
unfolding le
le_below zero s at b = omega arith
le_below (suc w) s at b = wider w (get_or s at 0 + 256 * le w s (at + 1)) (omega (arith, b at, le_below w s (at + 1) b))

-- of two, whichever it is
slim_pick : (t : Bool) (x y : Event) → Slim x → Slim y → Slim (pick t x y)
unfolding pick
slim_pick true x y a b = a
slim_pick false x y a b = b

-- a step's fields
module _ (s : List ℕ) (at : ℕ) (b : AllBytes s) where
  slim_open : Slim (Open (le 2 s (at + 2)))
  unfolding Slim
  slim_open = le_below 2 s (at + 2) b

  slim_read : Slim (Read (le 4 s (at + 4)) (le 8 s (at + 8)))
  unfolding Slim
  slim_read = (le_below 4 s (at + 4) b, le_below 8 s (at + 8) b)

  slim_write : Slim (Write (le 4 s (at + 4)) (le 8 s (at + 8)))
  unfolding Slim
  slim_write = (le_below 4 s (at + 4) b, le_below 8 s (at + 8) b)

  slim_close : Slim (Close (le 2 s (at + 2)))
  unfolding Slim
  slim_close = tt

  slim_step : Slim (step_at s at)
  unfolding step_at step_of
  slim_step =
      slim_pick _ _ _ slim_other
      (slim_pick _ _ _ slim_open (slim_pick _ _ _ slim_read (slim_pick _ _ _ slim_write (slim_pick _ _ _ slim_close slim_other))))

-- all steps
pub slim_steps : (s : List ℕ) → AllBytes s → EachSlim (steps_in s)
unfolding steps_from
slim_steps s b i =
    ⊎_elim (λ l. rw (singles_at (λ j. step_at s (16 * j)) Other 0 (step_count s) i (omega arith)) (slim_step s (16 * (0 + i)) b))
    (λ g.
    let past : length (steps_in s) ≤ i = omega (arith, singles_length (λ j. step_at s (16 * j)) 0 (step_count s)) in
    rw (get_or-eq_default (steps_in s) Other past) slim_other)
    (split i (step_count s))
