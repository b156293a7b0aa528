-- A history whose operations all have keys with single values: another such operation mixes none, and leaves such a history.
use Prim.Native.Nat.{ℕ, ◌+◌, ◌<◌, ◌≤◌}
use mathlib.Core.Path.{◌≡◌, refl, ap}
use mathlib.Core.Bool.{Bool, true, false}
use mathlib.Core.Logic.{⊎_elim}
use native.Mathlib.Omega.{arith}
use lib.ListN.{length}
use borrow.Author.Tests.{lt-ltb}
use Rattle.base.specs.Base.{pick}
use Rattle.base.proofs.Tests.{and_no_right, split}
use Rattle.base.proofs.Searches.{some-none}
use Rattle.rules.specs.History.{History, Op, op, op_count, is_other_sort, clashes, mixes_key, empty, opened, closed, with_op}
use Rattle.rules.specs.Reading.{mixes, entered}
use Rattle.rules.specs.declared.Event.{Event}
use Rattle.rules.specs.declared.Event.TheVariants.{Open, Read, Write, Close, End, Note, Other}
use Rattle.rules.proofs.History.{with_op-count, with_op_old, with_op-new, open_ops, close_ops}

-- each operation has a key with single values
abbrev pub Singles : History → Type 0
Singles h = (i : ℕ) → 1 ≤ i → i ≤ op_count h → (op h i).key < 4294967296

-- each read has, whatever the other operations are
abbrev pub ReadsSingle : History → Type 0
ReadsSingle h = (i : ℕ) → 1 ≤ i → i ≤ op_count h → (op h i).is_write ≡ false → (op h i).key < 4294967296

-- .. and so has an event that is an operation
unfoldable pub Single : Event → Type 0
Single (Open s) = Unit
Single (Read x v) = x < 4294967296
Single (Write x v) = x < 4294967296
Single (Close c) = Unit
Single (End n) = Unit
Single Note = Unit
Single Other = Unit

-- two of single values
not-other : {a b : Bool} → a ≡ true → b ≡ true → is_other_sort a b ≡ false
unfolding is_other_sort pick
not-other x y = rw (x, y)

pub singles_none : Singles empty
singles_none i a b = absurd (omega arith)

module _ (h : History) (s : Singles h) where
  pub no_clash : (x : ℕ) → x < 4294967296 → (i : ℕ) → 1 ≤ i → i ≤ op_count h → clashes h x i ≡ false
  unfolding clashes
  no_clash x l i a b = and_no_right _ _ (not-other (lt-ltb _ _ (s i a b)) (lt-ltb _ _ l))

  pub singles_unmixed : (x : ℕ) → x < 4294967296 → mixes_key h x ≡ false
  unfolding mixes_key
  singles_unmixed x l = some-none (clashes h x) (op_count h + 1) 1 (λ i a b. no_clash x l i a (omega arith))

  -- row 17 does not fit
  pub single_unmixed : (e : Event) → Single e → mixes h e ≡ false
  unfolding Single mixes
  single_unmixed (Open s) l = refl
  single_unmixed (Read x v) l = singles_unmixed x l
  single_unmixed (Write x v) l = singles_unmixed x l
  single_unmixed (Close c) l = refl
  single_unmixed (End n) l = refl
  single_unmixed Note l = refl
  single_unmixed Other l = refl

  -- one with the same operations; with one more
  singles_ops : (g : History) → g.ops ≡ h.ops → Singles g
  unfolding op
  singles_ops g e i a b = let l : i ≤ op_count h = omega (arith, ap length e) in rw e (s i a l)

  singles_with : (o : Op) → o.key < 4294967296 → Singles (with_op h o)
  singles_with o l i a b =
      ⊎_elim (λ g. let e : i ≡ op_count h + 1 = omega (arith, with_op-count h o) in rw (e, with_op-new h o) l)
      (λ g. rw (with_op_old h o i g) (s i a g)) (split (op_count h) i)

  -- what such an event enters
  pub singles_entered : (t : ℕ) (e : Event) → Single e → Singles (entered h t e)
  unfolding Single entered
  singles_entered t (Open n) l = singles_ops (opened h n) (open_ops h n)
  singles_entered t (Read x v) l = singles_with _ l
  singles_entered t (Write x v) l = singles_with _ l
  singles_entered t (Close c) l = singles_ops (closed h t c) (close_ops h t c)
  singles_entered t (End n) l = s
  singles_entered t Note l = s
  singles_entered t Other l = s
