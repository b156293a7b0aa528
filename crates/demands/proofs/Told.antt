-- What an answer in the document's numbers reports: of our own answers what they do, and always one of the three kinds of report, each of one answer.
use mathlib.Core.Path.{◌≡◌, refl, ap}
use native.Mathlib.Omega.{arith}
use Rattle.rules.specs.Outcome.{Report, Answer, reported}
use Rattle.rules.specs.Refusals.{Declined, told}
use Rattle.rules.specs.declared.Ruling.TheVariants.{Rejected, Accepted}
use Rattle.std.specs.Prelude.{Ok, Err}
use Rattle.rules.proofs.Outcome.{verdict_no, ReportIs, says_declined, says_rejected, says_accepted}
use Rattle.demands.specs.Judges.{ToldAnswer, report_told}

pub reported_told : (r : Answer) → reported r ≡ report_told (told r)
unfolding reported report_told
reported_told (Err r) = refl
reported_told (Ok (Rejected f p)) = refl
reported_told (Ok (Accepted n)) = refl

pub says_told : (a : ToldAnswer) → ReportIs (report_told a)
unfolding report_told
says_told (Err d) = says_declined
says_told (Ok (Rejected f p)) = says_rejected
says_told (Ok (Accepted n)) = says_accepted

-- one report has one verdict
same_verdict : {r q : Report} → r ≡ q → verdict_no r.verdict ≡ verdict_no q.verdict
same_verdict e = ap (λ (x : Report). verdict_no x.verdict) e

same_declined : {d c : Declined} → d.no ≡ c.no → d.place ≡ c.place → d ≡ c
same_declined n p = λ i. record { no = n i; place = p i }

pub report_told_one : (a b : ToldAnswer) → report_told a ≡ report_told b → a ≡ b
unfolding report_told
report_told_one (Err d) (Err c) e = ap Err (same_declined (ap (λ (x : Report). x.no) e) (ap (λ (x : Report). x.place) e))
report_told_one (Err d) (Ok (Rejected f q)) e = absurd (omega (arith, same_verdict e))
report_told_one (Err d) (Ok (Accepted m)) e = absurd (omega (arith, same_verdict e))
report_told_one (Ok (Rejected f p)) (Err c) e = absurd (omega (arith, same_verdict e))
report_told_one (Ok (Rejected f p)) (Ok (Rejected g q)) e = rw (ap (λ (x : Report). x.findings) e, ap (λ (x : Report). x.pairs) e)
report_told_one (Ok (Rejected f p)) (Ok (Accepted m)) e = absurd (omega (arith, same_verdict e))
report_told_one (Ok (Accepted n)) (Err c) e = absurd (omega (arith, same_verdict e))
report_told_one (Ok (Accepted n)) (Ok (Rejected f q)) e = absurd (omega (arith, same_verdict e))
report_told_one (Ok (Accepted n)) (Ok (Accepted m)) e = rw (ap (λ (x : Report). x.order) e)
