-- By the contracts of the calls alone: a claim, beside what the judge answers of the same trace, and at two levels.
use Prim.Native.Nat.{ℕ, ◌≤◌}
use mathlib.Core.Path.{◌≡◌, ap, sym, ◌∙◌}
use mathlib.Core.List.{List}
use mathlib.Core.Logic.{◌↔◌}
use native.Mathlib.Omega.{arith}
use lib.ListN.{length, take}
use Rattle.rules.specs.History.{History}
use Rattle.rules.specs.Reading.{Reading}
use Rattle.rules.specs.Outcome.{Report, declining, reported, Outcome, outcome, judged_read, judged}
use Rattle.rules.specs.Outcome.{Answer}
use Rattle.std.specs.Prelude.{Ok, Err}
use Rattle.rules.specs.Refusals.{cause_no}
use Rattle.rules.specs.declared.Ruling.TheVariants.{Rejected, Accepted}
use Rattle.rules.proofs.Outcome.{reported_one, judged_level, judged_no_level, judged_refused}
use Rattle.demand1.proofs.Readings.{refuses_iff}
use Rattle.demand2.proofs.Traces.{accepted_trace}
use Rattle.demands.proofs.Meets.{meets}
use Rattle.claims_rules.specs.Claims.{Reply, holds, no_read, no_members, no_pair, declined, reply, claimed}
use Rattle.claims_rules.specs.Claims.{ClaimAnswer}
use Rattle.claims_rules.specs.declared.ClaimRuling.TheVariants.{Yes}
use Rattle.claims_rules.proofs.Claims.{reply_one, reply_case}
use Rattle.claims_laws.specs.Claims.{ClaimSays, right, wrong_read, wrong_members, wrong_pair, Claims, no_level, reading_refused, of_history}
use Rattle.claims_laws.proofs.Claims.{claims_iff}
use Rattle.claims_laws.proofs.Yes.{yes_iff, words_iff}
use Rattle.claims_laws.proofs.Levels.{claimed_down}
use Rattle.claims_laws.proofs.Judged.{shown_right, yes_accepted, rejected_no}
use Rattle.two.specs.declared.Two.{Two}
use Rattle.claims_calls.specs.Calls.{ClaimPromised, JudgedAndClaimed, shown_length, ShownClaimed, ClaimedAtLevels}

-- ── one claim ──

is_yes : (c : ClaimAnswer) → (c ≡ Ok Yes) ↔ (reply c ≡ holds)
unfolding reply
is_yes c = (λ e. ap reply e, λ e. reply_one c (Ok Yes) e)

module _ {s : List ℕ} {level : ℕ} {o : List ℕ} (c : ClaimAnswer) (e : reply c ≡ claimed s level o) where
  pub met : Claims s level o (reply c)
  met = (claims_iff s level o (reply c)).0 (sym e)

  pub promised : ClaimPromised s level o c
  promised =
      record {
        claims = met;
        yes_exactly = (λ y. (yes_iff s level o).0 (sym e ∙ (is_yes c).0 y), λ r. (is_yes c).1 (e ∙ (yes_iff s level o).1 r));
        yes_in_words = (λ y. (words_iff s level o).0 (sym e ∙ (is_yes c).0 y), λ r. (is_yes c).1 (e ∙ (words_iff s level o).1 r));
      }

-- ── the judge and a claim ──

-- what is refused of a claim: its row 1, or what reading refuses
said_declined : {h : History} {level : ℕ} {o : List ℕ} {x : Reply} → ClaimSays h level o x → {n p : ℕ} → x ≡ declined n p → ⊥
said_declined (right c y) e = omega (arith, ap reply_case e)
said_declined (wrong_read f) e = omega (arith, ap reply_case e)
said_declined (wrong_members c w) e = omega (arith, ap reply_case e)
said_declined (wrong_pair c l x) e = omega (arith, ap reply_case e)

-- a refusal of it, as the judge reports one
abbrev report_for : Reply → Report
report_for holds = declining 0 0
report_for (no_read i) = declining 0 0
report_for no_members = declining 0 0
report_for (no_pair a b) = declining 0 0
report_for (declined n p) = declining n p

module _ (s : List ℕ) (level : ℕ) (fs ps os : List ℕ) where
  refused_alike : {o : List ℕ} {x : Reply} → Claims s level o x → {n p : ℕ} → x ≡ declined n p → (judged s level fs ps os).report ≡ declining n p
  refused_alike (no_level d) e = ap (λ (x : Outcome). x.report) (judged_no_level s level fs ps os d) ∙ ap report_for e
  refused_alike (reading_refused {n} {p} a b r) e =
      ap (λ (x : Outcome). x.report)
      (judged_level s level fs ps os a b ∙ ap (λ (q : Reading). judged_read q level fs ps os) ((refuses_iff s n p).1 r) ∙ judged_refused level fs ps os n p)
      ∙ ap report_for e
  refused_alike (of_history a b i x) e = absurd (said_declined x e)

  -- an order is shown only where it has room
  shown_room : (a : Answer) → (judged s level fs ps os).report ≡ reported a → shown_length a ≤ length os
  unfolding shown_length reported
  shown_room (Err r) e = omega arith
  shown_room (Ok (Rejected f p)) e = omega arith
  shown_room (Ok (Accepted n)) e = ((accepted_trace s level fs ps os n).0 e).accepts.fits

  module _ (a : Answer) {F P O : List ℕ} (j : outcome (reported a) F P O ≡ judged s level fs ps os) where
    report_is : (judged s level fs ps os).report ≡ reported a
    report_is = ap (λ (x : Outcome). x.report) (sym j)

    pub shown_fits : shown_length a ≤ length os
    shown_fits = shown_room a report_is

    pub judged-and-claimed : {o : List ℕ} (c : ClaimAnswer) → reply c ≡ claimed s level o
        → JudgedAndClaimed s level o (record { judged = a; claimed = c }) fs ps os F P O
    unfolding reported reply
    judged-and-claimed {o} c e =
        record {
          judged = meets s level fs ps os a j;
          claimed = met c e;
          on_rejection = λ q. rw e (rejected_no s level fs ps os (report_is ∙ ap reported q) o);
          on_yes = λ y l. reported_one a (Ok (Accepted (length o))) (sym report_is ∙ yes_accepted s level fs ps os o l (sym e ∙ ap reply y));
          on_refusal = λ {d} y. reported_one a (Err d) (sym report_is ∙ refused_alike (met c e) (ap reply y));
        }

    pub shown_claimed : (c : ClaimAnswer) → reply c ≡ claimed s level (take (shown_length a) O) → ShownClaimed s level (record { judged = a; claimed = c }) fs ps os F P O
    unfolding reported shown_length
    shown_claimed c e =
        record {
          judged = meets s level fs ps os a j;
          claimed = met c e;
          on_acceptance =
              λ {n} q.
              (is_yes c).1
              (e ∙ ap (λ (l : List ℕ). claimed s level (take (shown_length a) l)) (ap (λ (x : Outcome). x.order) j)
              ∙ ap (λ (b : Answer). claimed s level (take (shown_length b) (judged s level fs ps os).order)) q ∙ shown_right s level fs ps os (report_is ∙ ap reported q));
        }

-- ── two levels ──

module _ (s : List ℕ) (m k : ℕ) (o : List ℕ) (r : Two ClaimAnswer) where
  pub at_levels : reply r.one ≡ claimed s m o → reply r.other ≡ claimed s k o → ClaimedAtLevels s m k o r
  at_levels e d =
      record {
        at = met r.one e;
        below = met r.other d;
        stays = λ l n y. (is_yes r.other).1 (d ∙ claimed_down s o l n (sym e ∙ (is_yes r.one).0 y));
        one = λ q. reply_one r.other r.one (d ∙ ap (λ (x : ℕ). claimed s x o) (sym q) ∙ sym e);
      }
