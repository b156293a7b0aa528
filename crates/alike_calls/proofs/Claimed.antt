-- Orders that are claimed for two traces: whatever meets what is promised of the calls, whoever answered it.
use Prim.Native.Nat.{ℕ}
use mathlib.Core.Path.{◌≡◌, refl, ap, sym, ◌∙◌, fun_ext}
use mathlib.Core.Bool.{Bool}
use mathlib.Core.List.{List}
use mathlib.Core.Logic.{⊎_elim}
use native.Mathlib.Omega.{arith}
use lib.ListN.{length}
use lib.Dec.{ltb}
use borrow.Author.Tests.{lt-ltb, le-ltb}
use Rattle.base.proofs.Tests.{pick_alike, split}
use Rattle.rules.specs.History.{History}
use Rattle.rules.specs.Reading.{Reading}
use Rattle.rules.specs.Outcome.{findings, is_level}
use Rattle.demand1.specs.Lawful.{LawfulHistory}
use Rattle.renumbering.specs.Renumbering.{Renumbers}
use Rattle.renumbering.proofs.Numbers.{same_size}
use Rattle.renumbering.proofs.Committed.{same-committed}
use Rattle.renumbering.proofs.Pairs.{same-forced}
use Rattle.renumbering.proofs.Lists.{as_many}
use Rattle.noteless.specs.Without.{ButForNotes}
use Rattle.noteless.proofs.ButFor.{notes_reading}
use Rattle.moved.specs.Moved.{Moved}
use Rattle.claims_rules.specs.Claims.{Reply, no_read, reply, unclean, is_stray, is_missing, has_members, claimed_in, claimed_read, claimed}
use Rattle.claims_rules.specs.Lines.{reply_line}
use Rattle.claims_rules.specs.Numbers.{reply_no, in_numbers, claimed_in_numbers}
use Rattle.claims_rules.proofs.Claims.{unclean-none, unclean-some, reply_one}
use Rattle.claims_laws.specs.Claims.{Claims}
use Rattle.claims_laws.specs.Told.{ClaimPrinted, printed, ClaimNumbered}
use Rattle.claims_laws.proofs.Claims.{claims-is, claims_iff}
use Rattle.claims_laws.proofs.Told.{numbered-told, numbered_one}
use Rattle.two.specs.declared.Two.{Two}
use Rattle.claims_rules.specs.Claims.{ClaimAnswer}
use Rattle.alike_calls.specs.Alike.{SaidAlike, same_reply, both_reads, ClaimedBoth, NumberedBoth}
use Rattle.alike_calls.proofs.Alike.{moved_readings}

-- ── histories that differ by the numbers of their operations ──

-- some read is unclean exactly if there are findings
unclean-test : (h : History) → ltb 0 (unclean h) ≡ ltb 0 (length (findings h))
unclean-test h =
    ⊎_elim (λ l. lt-ltb 0 (unclean h) (unclean-some h (λ z. omega arith)) ∙ sym (lt-ltb 0 (length (findings h)) l))
    (λ l. le-ltb 0 (unclean h) (omega (arith, unclean-none h (omega arith))) ∙ sym (le-ltb 0 (length (findings h)) l)) (split 0 (length (findings h)))

module _ {to back : ℕ → ℕ} {h g : History} (ok : LawfulHistory h) (r : Renumbers to back h g) where
  same-unclean : ltb 0 (unclean g) ≡ ltb 0 (unclean h)
  same-unclean = unclean-test g ∙ ap (ltb 0) (as_many ok r) ∙ sym (unclean-test h)

  same_stray : (o : List ℕ) → is_stray g o ≡ is_stray h o
  unfolding is_stray
  same_stray o = fun_ext (λ i. rw (same-committed ok r))

  same_missing : (o : List ℕ) → is_missing g o ≡ is_missing h o
  unfolding is_missing
  same_missing o = fun_ext (λ a. rw (same-committed ok r))

  same_members : (o : List ℕ) → has_members g o ≡ has_members h o
  unfolding has_members
  same_members o = rw (same_stray o, same_missing o, same_size r)

  said_alike : (level : ℕ) (o : List ℕ) → SaidAlike (claimed_in h level o) (claimed_in g level o)
  unfolding claimed_in
  said_alike level o =
      rw (same-unclean, same_members o, same_size r, same-forced ok r level) (pick_alike SaidAlike (ltb 0 (unclean h)) both_reads same_reply)

-- ── traces ──

-- whatever is said of a claim
module _ {s t : List ℕ} (level : ℕ) (o : List ℕ) {x y : Reply} (a : Claims s level o x) (b : Claims t level o y) where
  pub claims-moved : {second : Bool} → Moved second s t → SaidAlike x y
  unfolding claimed claimed_read
  claims-moved m =
      let w : SaidAlike (claimed s level o) (claimed t level o) =
      pick_alike SaidAlike (is_level level)
      (moved_readings m (λ p q. SaidAlike (claimed_read p level o) (claimed_read q level o)) (λ to back h g ok r i j. said_alike ok r level o)) same_reply in
      rw (claims-is s level o a, claims-is t level o b) at w

  pub claims-noted : ButForNotes s t → y ≡ x
  unfolding claimed claimed_read
  claims-noted n =
      sym (claims-is t level o b) ∙ rw (notes_reading n (λ (p : Reading). claimed_read p level o) (λ h i j. refl)) (claims-is s level o a)

-- .. and whatever is printed of it
pub printed_noted : {s t : List ℕ} (level : ℕ) (o : List ℕ) {p q : List ℕ} → ClaimPrinted s level o p → ClaimPrinted t level o q → ButForNotes s t → q ≡ p
printed_noted level o (printed a) (printed b) n = ap reply_line (claims-noted level o a b n)

pub claimed_both : (s t : List ℕ) (level : ℕ) (o : List ℕ) (r : Two ClaimAnswer) → reply r.one ≡ claimed s level o → reply r.other ≡ claimed t level o
    → ClaimedBoth s t level o r
claimed_both s t level o r a b =
    let x = (claims_iff s level o _).0 (sym a) in
    let y = (claims_iff t level o _).0 (sym b) in
    record {
      one = x;
      other = y;
      was_moved = λ second m. claims-moved level o x y m;
      but_for_notes = λ n. reply_one r.other r.one (claims-noted level o x y n);
    }

-- ── for C ──

-- replies that are alike have one number, and unless it is that of a read they are the same
alike_number : {x y : Reply} → SaidAlike x y → reply_no y ≡ reply_no x
unfolding reply_no
alike_number same_reply = refl
alike_number both_reads = refl

alike_same : {x y : Reply} → SaidAlike x y → ((i : ℕ) → reply_no x ≡ reply_no (no_read i) → ⊥) → y ≡ x
alike_same same_reply d = refl
alike_same (both_reads {i}) d = absurd (d i refl)

module _ {s t : List ℕ} (level : ℕ) (o ns : List ℕ) {r q : ℕ} {N N' : List ℕ} (a : ClaimNumbered s level o ns r N) (b : ClaimNumbered t level o ns q N') where
  -- where both say the same, the slices then hold the same
  same_numbers : b.said ≡ a.said → (q ≡ r) × (N' ≡ N)
  same_numbers e =
      numbered_one s level o ns
      (record { said = a.said; claims = a.claims; number = b.number ∙ ap reply_no e; numbers = rw e at b.numbers }) a

  pub numbered-moved : {second : Bool} → Moved second s t → (q ≡ r) × (((i : ℕ) → r ≡ reply_no (no_read i) → ⊥) → N' ≡ N)
  numbered-moved m =
      let w = claims-moved level o a.claims b.claims m in (
        b.number ∙ alike_number w ∙ sym a.number,
        λ d. (same_numbers (alike_same w (λ i e. d i (a.number ∙ e)))).1,
      )

  pub numbered-noted : ButForNotes s t → (q ≡ r) × (N' ≡ N)
  numbered-noted n = same_numbers (claims-noted level o a.claims b.claims n)

pub numbered_both : (s t : List ℕ) (level : ℕ) (o ns ns' : List ℕ) (r : Two ℕ) {N N' : List ℕ} → in_numbers r.one N ≡ claimed_in_numbers s level o ns
    → in_numbers r.other N' ≡ claimed_in_numbers t level o ns' → NumberedBoth s t level o ns ns' r N N'
numbered_both s t level o ns ns' r {N} {N'} a b =
    let x = numbered-told s level o ns r.one N a in
    let y = numbered-told t level o ns' r.other N' b in
    let same : ns ≡ ns' → ClaimNumbered t level o ns r.other N' = λ e. rw e y in
    record {
      one = x;
      other = y;
      was_moved = λ e second m. numbered-moved level o ns x (same e) m;
      but_for_notes = λ e n. numbered-noted level o ns x (same e) n;
    }
