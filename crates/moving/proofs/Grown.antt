-- As blocks a history has grown by the steps that tell it, and is told by them; one that has grown by them is as blocks already.
use Prim.Native.Nat.{◌+◌}
use mathlib.Core.Path.{◌≡◌, sym, ◌∙◌}
use mathlib.Core.List.{List, []}
use lib.ListN.{length}
use Rattle.rules.specs.History.{History, current}
use Rattle.rules.specs.declared.Event.{Event}
use Rattle.demand1.specs.Lawful.{LawfulHistory}
use Rattle.writing.specs.Listing.{history_steps}
use Rattle.writing.proofs.Grown.{Grown}
use Rattle.writing.proofs.Followed.{follow_end, end_good, grown_follow}
use Rattle.writing.proofs.Told.{told}
use Rattle.moving.specs.Renumbering.{as_blocks}
use Rattle.moving.proofs.Part.{blocks_part}
use Rattle.moving.proofs.Turns.{grows_all}

-- the same steps, followed to an end outside a transaction, give the same history
grown_one : {es : List Event} {h g : History} → Grown es h → Grown es g → current g ≡ 0 → g ≡ h
grown_one {es} {h} {g} a b z =
    (end_good h (1 + length es) (sym (grown_follow a []) ∙ grown_follow b [] ∙ follow_end g (1 + length es) z)).0

module _ {h : History} (w : LawfulHistory h) where
  pub blocks_grown : Grown (history_steps h) (as_blocks h)
  blocks_grown = rw (blocks_part h) (grows_all w).grown

  pub blocks_over : current (as_blocks h) ≡ 0
  blocks_over = rw (blocks_part h) (grows_all w).over

  pub blocks_told : history_steps (as_blocks h) ≡ history_steps h
  blocks_told = told blocks_grown

  pub already_blocks : Grown (history_steps h) h → as_blocks h ≡ h
  already_blocks g = grown_one g blocks_grown blocks_over
