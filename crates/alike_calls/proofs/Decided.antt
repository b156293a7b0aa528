-- The calls for C on two traces: whatever meets what is promised of them, whoever answered it.
use Prim.Native.Nat.{ℕ, ◌<◌}
use mathlib.Core.Path.{◌≡◌, refl, ap, sym, ◌∙◌}
use mathlib.Core.Bool.{Bool}
use mathlib.Core.List.{List}
use native.Mathlib.Omega.{arith}
use Rattle.theory.proofs.Entries.{number_one}
use Rattle.rules.specs.Reading.{Reading}
use Rattle.rules.specs.Outcome.{rejects, reported}
use Rattle.rules.specs.Outcome.{Answer}
use Rattle.demand1.proofs.Readings.{history_one}
use Rattle.demand3.specs.Rejected.{FindingCount}
use Rattle.demands.proofs.SomeJudge.{as_defined, as_defined_lem}
use Rattle.renumbering.specs.Renumbering.{FindingsBecame, AnswersAlike}
use Rattle.renumbering.proofs.Lists.{same_accepted}
use Rattle.moving.specs.Renumbering.{new_number}
use Rattle.noteless.specs.Without.{ButForNotes}
use Rattle.moved.specs.Moved.{Moved}
use Rattle.moved.proofs.Alike.{moved_alike}
use Rattle.deciding.specs.Deciding.{decision_no, decision_of, counts_put, decided_as, decided, strongest_no, accepted_read, is_accepted_at, strongest}
use Rattle.deciding.specs.declared.Decision.TheVariants.{Hold}
use Rattle.decided.specs.Decides.{Decides}
use Rattle.decided.specs.Strongest.{StrongestIs}
use Rattle.decided.proofs.Decides.{decides_by_demands, decides, decides_one}
use Rattle.decided.proofs.Strongest.{strongest-is, strongest_one}
use Rattle.two.specs.declared.Two.{Two}
use Rattle.alike_calls.specs.Alike.{DecidedAlike, SameDecision, DecidedBoth, StrongestBoth}
use Rattle.alike_calls.proofs.Alike.{OfHistory, same-moved, same_noted, notes_answers}

-- ── the decision ──

-- the number that an answer of the judge is decided with, and the counts
abbrev number_by : Answer → ℕ
number_by a = decision_no (decision_of (reported a).verdict)

abbrev counts_by : List ℕ → Answer → List ℕ
counts_by cs a = counts_put (reported a) cs

module _ (level : ℕ) (fs ps os cs : List ℕ) where
  -- what is promised of the call is what an answer that meets the demands is decided with
  module _ (s : List ℕ) {r : ℕ} {F P O C : List ℕ} (d : Decides s level fs ps os cs r F P O C) where
    by_judge : let g = as_defined s level fs ps os in
        (r ≡ number_by g.answer) × (F ≡ g.findings) × (P ≡ g.pairs) × (O ≡ g.order) × (C ≡ counts_by cs g.answer)
    by_judge =
        let g = as_defined s level fs ps os in
        decides_one s level fs ps os cs r (number_by g.answer) F P O C g.findings g.pairs g.order (counts_by cs g.answer) d
        (decides_by_demands s level fs ps os g.answer (as_defined_lem s level fs ps os) cs)

  module _ {s t : List ℕ} {r q : ℕ} {F P O C F' P' O' C' : List ℕ} (a : Decides s level fs ps os cs r F P O C) (b : Decides t level fs ps os cs q F' P' O' C') where
    -- one was moved to the other
    module _ {second : Bool} (m : Moved second s t) where
      g : Answer
      g = (as_defined s level fs ps os).answer

      alike : let x = as_defined s level fs ps os in let y = as_defined t level fs ps os in
          AnswersAlike (new_number m.history) x.answer y.answer x.findings x.pairs x.order y.findings y.pairs y.order
      alike = moved_alike m level fs ps os _ _ _ _ _ _ _ _ (as_defined_lem s level fs ps os) (as_defined_lem t level fs ps os)

      -- the numbers of a hold's findings
      became : r ≡ decision_no Hold → (f : ℕ) → FindingCount m.history f → FindingsBecame (new_number m.history) f F F'
      became e f c =
          let u = by_judge s a in
          let v = by_judge t b in
          let h = a.held.0 e in
          let i = h.2 in
          let k : FindingCount m.history h.0 = rw (history_one i.reads m.reads) at i.rejects.findings in
          let n : f ≡ h.0 = number_one ◌<◌ (λ i j x y. omega arith) c k in
          let w = alike.on_rejection h.0 h.1 (((as_defined_lem s level fs ps os).third.rejected h.0 h.1).1 i) in
          rw (u.1, v.1, n) w

      pub decisions_alike : DecidedAlike (new_number m.history) m.history r q F P O C F' P' O' C'
      unfolding decision_of
      decisions_alike =
          let u = by_judge s a in
          let v = by_judge t b in
          let z = alike in
          record {
            same_number = v.0 ∙ ap number_by z.same_answer ∙ sym u.0;
            same_pairs = v.2 ∙ z.same_pairs ∙ sym u.2;
            same_order = v.3 ∙ z.same_order ∙ sym u.3;
            same_counts = v.4 ∙ ap (counts_by cs) z.same_answer ∙ sym u.4;
            no_findings = λ d. v.1 ∙ z.no_findings (λ e. d (u.0 ∙ rw e refl)) ∙ sym u.1;
            on_hold = became;
          }

    -- they differ only in notes
    pub same_decisions : ButForNotes s t → SameDecision r q F P O C F' P' O' C'
    same_decisions n =
        let u = by_judge s a in
        let v = by_judge t b in
        let z = notes_answers n level fs ps os _ _ _ _ _ _ _ _ (as_defined_lem s level fs ps os) (as_defined_lem t level fs ps os) in
        record {
          number = v.0 ∙ ap number_by z.answer ∙ sym u.0;
          findings = v.1 ∙ z.findings ∙ sym u.1;
          pairs = v.2 ∙ z.pairs ∙ sym u.2;
          order = v.3 ∙ z.order ∙ sym u.3;
          counts = v.4 ∙ ap (counts_by cs) z.answer ∙ sym u.4;
        }

module _ (s t : List ℕ) (level : ℕ) (r : Two ℕ) (fs ps os cs fs' ps' os' cs' : List ℕ) {F P O C F' P' O' C' : List ℕ} where
  pub decided_both : decided_as r.one F P O C ≡ decided s level fs ps os cs → decided_as r.other F' P' O' C' ≡ decided t level fs' ps' os' cs'
      → DecidedBoth s t level r fs ps os cs fs' ps' os' cs' F P O C F' P' O' C'
  decided_both a b =
      let x = decides s level fs ps os cs r.one a in
      let y = decides t level fs' ps' os' cs' r.other b in
      let same : fs ≡ fs' → ps ≡ ps' → os ≡ os' → cs ≡ cs' → Decides t level fs ps os cs r.other F' P' O' C' = λ e f g h. rw (e, f, g, h) y in
      record {
        one = x;
        other = y;
        was_moved = λ e f g h second m. decisions_alike level fs ps os cs x (same e f g h) m;
        but_for_notes = λ e f g h n. same_decisions level fs ps os cs x (same e f g h) n;
      }

-- ── the strongest level ──

-- acceptance hangs on the history alone
accepted_of : (level : ℕ) → OfHistory (λ (x : Reading). accepted_read x level)
unfolding accepted_read
accepted_of level = record { any_notes = λ h n m. refl; any_numbers = λ ok r n m. same_accepted ok r level }

module _ {s t : List ℕ} where
  -- what accepts the one accepts the other
  moved_accepted : {second : Bool} → Moved second s t → (level : ℕ) → is_accepted_at t level ≡ is_accepted_at s level
  unfolding is_accepted_at
  moved_accepted m level = same-moved (accepted_of level) refl refl m

  notes_accepted : ButForNotes s t → (level : ℕ) → is_accepted_at t level ≡ is_accepted_at s level
  unfolding is_accepted_at
  notes_accepted n level = same_noted (accepted_of level) refl refl n

  -- so the numbers are the same
  same-strongest : ((level : ℕ) → is_accepted_at t level ≡ is_accepted_at s level) → {r q : ℕ} → StrongestIs s r → StrongestIs t q → q ≡ r
  unfolding strongest
  same-strongest e {r} {q} x y =
      strongest_one t q _ y (strongest-is t (strongest_no (strongest t)) refl)
      ∙ rw (e 3, e 2, e 1) (sym (strongest_one s r _ x (strongest-is s (strongest_no (strongest s)) refl)))

  -- one was moved to the other; they differ only in notes
  pub strongest-moved : {second : Bool} → Moved second s t → {r q : ℕ} → StrongestIs s r → StrongestIs t q → q ≡ r
  strongest-moved m = same-strongest (moved_accepted m)

  pub strongest-noted : ButForNotes s t → {r q : ℕ} → StrongestIs s r → StrongestIs t q → q ≡ r
  strongest-noted n = same-strongest (notes_accepted n)

pub strongest_both : (s t : List ℕ) (r : Two ℕ) → r.one ≡ strongest_no (strongest s) → r.other ≡ strongest_no (strongest t) → StrongestBoth s t r
strongest_both s t r a b =
    let x = strongest-is s r.one a in
    let y = strongest-is t r.other b in
    record {
      one = x;
      other = y;
      was_moved = λ second m. strongest-moved m x y;
      but_for_notes = λ n. strongest-noted n x y;
    }
