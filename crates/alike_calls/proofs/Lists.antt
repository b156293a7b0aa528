-- The call on lists, on two traces: what was moved has single values only, and so has a trace of the edition that has notes. In the other each list stays.
use Prim.Native.Nat.{ℕ}
use mathlib.Core.Path.{◌≡◌, refl, ap, sym, ◌∙◌}
use mathlib.Core.Bool.{Bool, false}
use mathlib.Core.List.{List}
use native.Mathlib.Omega.{arith}
use Rattle.base.proofs.Tests.{ifso}
use Rattle.rules.specs.History.{History, Op}
use Rattle.rules.specs.Records.{is_second}
use Rattle.rules.specs.Reading.{Reading, refused, read, reading}
use Rattle.rules.proofs.Singles.{Singles}
use Rattle.demand1.specs.Lawful.{IsOp}
use Rattle.demand1.specs.Rows.{HasHistory}
use Rattle.demand1.proofs.Readings.{has_history, has_read, read_has}
use Rattle.written.specs.Writes.{AllBytes}
use Rattle.written.proofs.Small.{first_single, read_singles}
use Rattle.noteless.specs.Texts.{OtherTexts}
use Rattle.noteless.specs.Without.{WithoutNotes, ButForNotes, other_texts, without_notes}
use Rattle.noteless.proofs.Texts.{texts-reading, second-same}
use Rattle.noteless.proofs.Without.{without_read}
use Rattle.moved.specs.Moved.{Moved}
use Rattle.moved.proofs.Lists.{records_no_lists, no_lists_single}
use Rattle.appends_rules.specs.Appends.{lists_in}
use Rattle.appends_rules.specs.ListOutcome.{ListOutcome, list_outcome, lists_of_read, judged_lists}
use Rattle.appends_laws.proofs.NoLists.{singles_judged}
use Rattle.appends_laws.proofs.Swapped.{same-told}
use Rattle.appends.specs.Answering.{list_reported}
use Rattle.appends_calls.proofs.Calls.{list_reported_one, promised_by}
use Rattle.two.specs.declared.Two.{Two}
use Rattle.appends.specs.Answering.{ListAnswer}
use Rattle.alike_calls.specs.Alike.{SameLists, ListsJudgedBoth}
use Rattle.alike_calls.proofs.Serials.{lists_stay}

-- ── single values ──

module _ {second : Bool} {s t : List ℕ} (m : Moved second s t) where
  -- every record that a move puts out is of an event
  moved_singles : Singles m.moved_history
  moved_singles = read_singles t m.records.is_bytes (no_lists_single (records_no_lists m.records)) (has_history m.moved_reads)

  -- the operations are those of the trace that was moved
  kept_singles : Singles m.history
  kept_singles i a b =
      let r = m.in_blocks.renumbers in
      let o : IsOp m.history i = record { from = a; to = b } in
      let k = r.to_op i o in
      omega (arith, moved_singles _ k.from k.to, ap (λ (x : Op). x.key) (r.same_op i o))

  pub lists_moved : (fs ps : List ℕ) → judged_lists t fs ps ≡ judged_lists s fs ps
  lists_moved fs ps = singles_judged (has_history m.moved_reads) moved_singles fs ps ∙ sym (singles_judged m.reads kept_singles fs ps)

-- ── notes ──

module _ {s t : List ℕ} (bytes : AllBytes s) (fs ps : List ℕ) where
  -- of edition 1, where both are read into one history
  first_alike : is_second s ≡ false → {h : History} → HasHistory s h → HasHistory t h → judged_lists t fs ps ≡ judged_lists s fs ps
  first_alike e r q =
      let x = read_singles s bytes (first_single e) r in
      singles_judged q x fs ps ∙ sym (singles_judged r x fs ps)

  -- what is refused is refused alike; a trace of edition 2 has no text
  texts_of : OtherTexts s t → (r : Reading) → reading s ≡ r → judged_lists t fs ps ≡ judged_lists s fs ps
  unfolding judged_lists lists_of_read
  texts_of x (refused n p) e = rw (texts-reading x, e)
  texts_of x (read h n) e =
      ifso (is_second s) (λ q. ap (λ (b : List ℕ). judged_lists b fs ps) (second-same x q (has_read e)))
      (λ q. first_alike q (has_read e) (has_read (texts-reading x ∙ e)))

  -- a trace of edition 2 without its notes has its lists where they were
  without_of : {h : History} {first : ℕ} → HasHistory s h → WithoutNotes first s t → judged_lists t fs ps ≡ judged_lists s fs ps
  unfolding judged_lists lists_of_read
  without_of {h} r w =
      let q = has_history (without_read w r) in
      ifso (is_second s)
      (λ e. rw (read_has r, read_has q) (same-told h (lists_in t h) (lists_in s h) (lists_stay bytes e w r) fs ps))
      (λ e. first_alike e r q)

  pub lists_noted : ButForNotes s t → judged_lists t fs ps ≡ judged_lists s fs ps
  lists_noted (other_texts x) = texts_of x (reading s) refl
  lists_noted (without_notes r w) = without_of r w

-- ── two answers ──

module _ (s t : List ℕ) (r : Two ListAnswer) (fs ps fs' ps' : List ℕ) {F P F' P' : List ℕ} (x : list_outcome (list_reported r.one) F P ≡ judged_lists s fs ps)
    (y : list_outcome (list_reported r.other) F' P' ≡ judged_lists t fs' ps') where
  -- equal outcomes are of equal answers and contents
  same_lists : fs ≡ fs' → ps ≡ ps' → judged_lists t fs ps ≡ judged_lists s fs ps → SameLists r.one r.other F P F' P'
  same_lists e f z =
      let d : list_outcome (list_reported r.other) F' P' ≡ list_outcome (list_reported r.one) F P = y ∙ rw (← e, ← f) z ∙ sym x in
      record {
        answer = list_reported_one r.other r.one (ap (λ (o : ListOutcome). o.report) d);
        findings = ap (λ (o : ListOutcome). o.findings) d;
        pairs = ap (λ (o : ListOutcome). o.pairs) d;
      }

  pub lists_judged_both : AllBytes s → ListsJudgedBoth s t r fs ps fs' ps' F P F' P'
  lists_judged_both bytes =
      record {
        one = promised_by s fs ps r.one x;
        other = promised_by t fs' ps' r.other y;
        was_moved = λ e f second m. same_lists e f (lists_moved m fs ps);
        but_for_notes = λ e f n. same_lists e f (lists_noted bytes fs ps n);
      }
