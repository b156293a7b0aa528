-- The findings, place by place.
use Prim.Native.Nat.{ℕ, ◌+◌, ◌*◌, ◌/◌, ◌%◌, ◌≤◌}
use mathlib.Core.Path.{◌≡◌, sym, ◌∙◌}
use mathlib.Core.Bool.{true}
use mathlib.Core.List.{List, [], ◌∷◌}
use native.Mathlib.Omega.{arith}
use lib.ListN.{length, get_or}
use Rattle.base.specs.Base.{pick, listed}
use Rattle.base.proofs.Tests.{ifso, pick_off}
use Rattle.base.proofs.Searches.{joined-those}
use Rattle.rules.specs.History.{History, op, op_count, origin_of}
use Rattle.rules.specs.Reads.{is_finding}
use Rattle.rules.specs.Outcome.{findings, finding_bytes, finding_list}
use Rattle.rules.proofs.Lists.{findings-long}
use Rattle.table.specs.Table.{history_of, HasOp}
use Rattle.reads.specs.Verdicts.{Judged}
use Rattle.reads.proofs.Entries.{judged_finding, judged-kind}
use Rattle.pairs.specs.Pairs.{Ready}
use Rattle.sifting.specs.Lists.{entry_at, is_kind, finding_at}
use Rattle.sifting.proofs.Listings.{those-listed, room_for}

module _ (h : History) where
  pub findings-listed : findings h ≡ listed 1 (op_count h + 1) (entry_at (is_finding h))
  unfolding findings
  findings-listed = those-listed 1 (op_count h + 1) (is_finding h)

  pub list_listed : finding_list h ≡ listed 1 (op_count h + 1) (finding_at h)
  unfolding finding_list findings finding_at
  list_listed = joined-those (finding_bytes h) (is_finding h) (op_count h + 1) 1

  -- so there is room
  pub findings_fit : (m : ℕ) → 6 * length (findings h) ≤ m → 0 + length (listed 1 (op_count h + 1) (finding_at h)) ≤ m
  findings_fit m l = rw (← list_listed) (omega (arith, findings-long h))

-- what operation i's byte says
module _ {k : List ℕ} {h : History} (j : Judged k h) (i : ℕ) (a : 1 ≤ i) (b : i ≤ op_count h) where
  pub kind_says : is_kind (get_or k i 0) ≡ is_finding h i
  unfolding is_kind
  kind_says = sym (judged_finding j i a b)

  -- where it says that it is a finding, there is room for the six bytes of one
  pub finding_room : is_kind (get_or k i 0) ≡ true → (at n : ℕ) → at + length (finding_at h i) ≤ n → at + 6 ≤ n
  unfolding finding_at finding_bytes
  finding_room e at n l = room_for (finding_bytes h i) (sym kind_says ∙ e) at n l

-- .. in a table; t: its transaction; w: the number of the write that its value comes from
module _ {h k : List ℕ} {i t w : ℕ} (r : Ready h k) (x : HasOp h i) (p : t ≡ (op (history_of h) i).tx) (q : w ≡ origin_of (history_of h) i) where
  pub finding_says : finding_at (history_of h) i ≡ pick (is_kind (get_or k i 0)) (t ∷ get_or k i 0 ∷ i % 256 ∷ i / 256 ∷ w % 256 ∷ w / 256 ∷ []) []
  unfolding finding_at finding_bytes
  finding_says =
      let says = kind_says r.judged i x.from x.to in
      rw (p, q)
      (ifso (is_finding (history_of h) i) (λ t. rw (says, t, judged-kind r.judged i x.from x.to t))
      (λ t. pick_off _ _ _ t ∙ sym (pick_off _ _ _ (says ∙ t))))
