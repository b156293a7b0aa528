-- The outcome of judging, case by case: how it came about, and that nothing else can have made it.
use Prim.Native.Nat.{ℕ, ◌<◌, ◌≤◌}
use mathlib.Core.Path.{◌≡◌, refl, ap, ◌∙◌}
use mathlib.Core.Bool.{true, false}
use mathlib.Core.List.{List, [], ◌∷◌}
use mathlib.Core.Logic.{⊎_elim, ◌↔◌}
use native.Mathlib.Omega.{arith}
use lib.ListN.{length}
use borrow.Author.Tests.{ltb-true, lt-ltb, le-ltb}
use Rattle.base.proofs.Empty.{not-empty}
use Rattle.base.proofs.Tests.{clash, is_false, both, and_left, and_right, and_no_left, and_no_right, ifso, split, pick_on, pick_off}
use Rattle.rules.specs.Numbers.{over}
use Rattle.rules.specs.History.{History}
use Rattle.rules.specs.Reading.{Reading, refused, read, reading}
use Rattle.rules.specs.Outcome.{findings, pairs, finding_list, pair_list, order, Verdict, declines, rejects, accepts, Report, declining, rejecting, accepting, Answer, reported, Outcome, outcome, is_empty, is_accepted, acceptance, rejection, judged_read, is_level, judged}
use Rattle.rules.specs.declared.Ruling.TheVariants.{Rejected, Accepted}
use Rattle.rules.proofs.Refusals.{refusal_one}
use Rattle.std.specs.Prelude.{Ok, Err}

-- ── answers and reports ──

-- the verdicts by numbers: so they are apart
abbrev pub verdict_no : Verdict → ℕ
verdict_no declines = 0
verdict_no rejects = 1
verdict_no accepts = 2

-- one report has one verdict
same_verdict : {r q : Report} → r ≡ q → verdict_no r.verdict ≡ verdict_no q.verdict
same_verdict e = ap (λ (x : Report). verdict_no x.verdict) e

-- what is reported says which answer it was
pub reported_one : (r q : Answer) → reported r ≡ reported q → r ≡ q
unfolding reported
reported_one (Err r) (Err q) e = ap Err (refusal_one (ap (λ (x : Report). x.no) e) (ap (λ (x : Report). x.place) e))
reported_one (Err r) (Ok (Rejected f q)) e = absurd (omega (arith, same_verdict e))
reported_one (Err r) (Ok (Accepted m)) e = absurd (omega (arith, same_verdict e))
reported_one (Ok (Rejected f p)) (Err q) e = absurd (omega (arith, same_verdict e))
reported_one (Ok (Rejected f p)) (Ok (Rejected g q)) e = rw (ap (λ (x : Report). x.findings) e, ap (λ (x : Report). x.pairs) e)
reported_one (Ok (Rejected f p)) (Ok (Accepted m)) e = absurd (omega (arith, same_verdict e))
reported_one (Ok (Accepted n)) (Err q) e = absurd (omega (arith, same_verdict e))
reported_one (Ok (Accepted n)) (Ok (Rejected f q)) e = absurd (omega (arith, same_verdict e))
reported_one (Ok (Accepted n)) (Ok (Accepted m)) e = rw (ap (λ (x : Report). x.order) e)

-- a report is one of three
pub data ReportIs : Report → Type 0 where
  says_declined : {n p : ℕ} → ReportIs (declining n p)
  says_rejected : {f p : ℕ} → ReportIs (rejecting f p)
  says_accepted : {n : ℕ} → ReportIs (accepting n)

pub says : (r : Answer) → ReportIs (reported r)
unfolding reported
says (Err r) = says_declined
says (Ok (Rejected f p)) = says_rejected
says (Ok (Accepted n)) = says_accepted

-- ── acceptance or not ──

empty_iff : {A : Type 0} (l : List A) → (is_empty l ≡ true) ↔ (l ≡ [])
unfolding is_empty
empty_iff [] = (λ e. refl, λ e. refl)
empty_iff (x ∷ l) = (λ e. absurd (clash e refl), λ e. absurd (not-empty e))

pub none-empty : {A : Type 0} (l : List A) → length l ≡ 0 → l ≡ []
none-empty [] e = refl
none-empty (x ∷ l) e = absurd (omega arith)

some-empty : {A : Type 0} (l : List A) → 0 < length l → is_empty l ≡ false
some-empty l h = is_false _ (λ t. omega (arith, ap length ((empty_iff l).0 t)))

module _ (h : History) (level : ℕ) where
  -- "no finding and no listed pair"
  pub accepted_empty : (is_accepted h level ≡ true) ↔ ((findings h ≡ []) × (pairs h level ≡ []))
  unfolding is_accepted
  accepted_empty = (
    λ t. ((empty_iff (findings h)).0 (and_left _ _ t), (empty_iff (pairs h level)).0 (and_right _ _ t)),
    λ e. both _ _ ((empty_iff (findings h)).1 e.0) ((empty_iff (pairs h level)).1 e.1),
  )

  pub is_accepted_lem : length (findings h) ≡ 0 → length (pairs h level) ≡ 0 → is_accepted h level ≡ true
  is_accepted_lem f p = accepted_empty.1 (none-empty _ f, none-empty _ p)

  pub found_rejected : 0 < length (findings h) → is_accepted h level ≡ false
  unfolding is_accepted
  found_rejected f = and_no_left _ _ (some-empty _ f)

  pub listed_rejected : 0 < length (pairs h level) → is_accepted h level ≡ false
  unfolding is_accepted
  listed_rejected p = and_no_right _ _ (some-empty _ p)

-- ── the outcome of what was read ──

module _ (level : ℕ) (fs ps os : List ℕ) where
  -- rows 2 to 11
  pub judged_refused : (n p : ℕ) → judged_read (refused n p) level fs ps os ≡ outcome (declining n p) fs ps os
  unfolding judged_read
  judged_refused n p = refl

  module _ (h : History) where
    pub judged_accepted : (notes : ℕ) → is_accepted h level ≡ true → judged_read (read h notes) level fs ps os ≡ acceptance h level fs ps os
    unfolding judged_read
    judged_accepted notes t = pick_on (is_accepted h level) _ _ t

    pub judged_rejected : (notes : ℕ) → is_accepted h level ≡ false → judged_read (read h notes) level fs ps os ≡ rejection h level fs ps os
    unfolding judged_read
    judged_rejected notes t = pick_off (is_accepted h level) _ _ t

    -- row 14
    pub acceptance_short : length os < length (order h level) → acceptance h level fs ps os ≡ outcome (declining 14 (length (order h level))) fs ps os
    unfolding acceptance
    acceptance_short l = pick_on _ _ _ (lt-ltb _ _ l)

    pub acceptance-fits : length (order h level) ≤ length os
        → acceptance h level fs ps os ≡ outcome (accepting (length (order h level))) fs ps (over (order h level) os)
    unfolding acceptance
    acceptance-fits l = pick_off _ _ _ (le-ltb _ _ l)

    -- rows 12 and 13
    pub rejection_short : length fs < length (finding_list h) → rejection h level fs ps os ≡ outcome (declining 12 (length (finding_list h))) fs ps os
    unfolding rejection
    rejection_short l = pick_on _ _ _ (lt-ltb _ _ l)

    pub rejection_short_pairs : length (finding_list h) ≤ length fs → length ps < length (pair_list h level)
        → rejection h level fs ps os ≡ outcome (declining 13 (length (pair_list h level))) fs ps os
    unfolding rejection
    rejection_short_pairs l k = pick_off _ _ _ (le-ltb _ _ l) ∙ pick_on _ _ _ (lt-ltb _ _ k)

    pub rejection-fits : length (finding_list h) ≤ length fs → length (pair_list h level) ≤ length ps
        → rejection h level fs ps os
        ≡ outcome (rejecting (length (findings h)) (length (pairs h level))) (over (finding_list h) fs) (over (pair_list h level) ps) os
    unfolding rejection
    rejection-fits l k = pick_off _ _ _ (le-ltb _ _ l) ∙ pick_off _ _ _ (le-ltb _ _ k)

-- ── row 1 ──

pub level_test : (level : ℕ) → (is_level level ≡ true) ↔ ((1 ≤ level) × (level ≤ 3))
unfolding is_level
level_test level = (
  λ t. let a = ltb-true 0 level (and_left _ _ t) in let b = ltb-true level 4 (and_right _ _ t) in (omega arith, omega arith),
  λ l. let a = l.0 in let b = l.1 in both _ _ (lt-ltb 0 level (omega arith)) (lt-ltb level 4 (omega arith)),
)

module _ (s : List ℕ) (level : ℕ) (fs ps os : List ℕ) where
  pub judged_level : 1 ≤ level → level ≤ 3 → judged s level fs ps os ≡ judged_read (reading s) level fs ps os
  unfolding judged
  judged_level a b = pick_on (is_level level) _ _ ((level_test level).1 (a, b))

  pub judged_no_level : ((1 ≤ level) × (level ≤ 3) → ⊥) → judged s level fs ps os ≡ outcome (declining 1 0) fs ps os
  unfolding judged
  judged_no_level d = pick_off (is_level level) _ _ (is_false _ (λ t. d ((level_test level).0 t)))

  -- ── how an outcome came about ──

  pub data Came : Outcome → Type 0 where
    -- row 1; rows 2 to 11
    came_no_level : ((1 ≤ level) × (level ≤ 3) → ⊥) → Came (outcome (declining 1 0) fs ps os)
    came_refused : {n p : ℕ} → 1 ≤ level → level ≤ 3 → reading s ≡ refused n p → Came (outcome (declining n p) fs ps os)
    -- rows 12 and 13, and a rejection
    came_short : {h : History} {notes : ℕ} → 1 ≤ level → level ≤ 3 → reading s ≡ read h notes → is_accepted h level ≡ false
        → length fs < length (finding_list h) → Came (outcome (declining 12 (length (finding_list h))) fs ps os)
    came_short_pairs : {h : History} {notes : ℕ} → 1 ≤ level → level ≤ 3 → reading s ≡ read h notes → is_accepted h level ≡ false
        → length (finding_list h) ≤ length fs → length ps < length (pair_list h level) → Came (outcome (declining 13 (length (pair_list h level))) fs ps os)
    came_rejected : {h : History} {notes : ℕ} → 1 ≤ level → level ≤ 3 → reading s ≡ read h notes → is_accepted h level ≡ false
        → length (finding_list h) ≤ length fs → length (pair_list h level) ≤ length ps
        → Came (outcome (rejecting (length (findings h)) (length (pairs h level))) (over (finding_list h) fs) (over (pair_list h level) ps) os)
    -- row 14, and an acceptance
    came_short_order : {h : History} {notes : ℕ} → 1 ≤ level → level ≤ 3 → reading s ≡ read h notes → is_accepted h level ≡ true
        → length os < length (order h level) → Came (outcome (declining 14 (length (order h level))) fs ps os)
    came_accepted : {h : History} {notes : ℕ} → 1 ≤ level → level ≤ 3 → reading s ≡ read h notes → is_accepted h level ≡ true
        → length (order h level) ≤ length os → Came (outcome (accepting (length (order h level))) fs ps (over (order h level) os))

  module _ (a : 1 ≤ level) (b : level ≤ 3) where
    by-acceptance : {h : History} {notes : ℕ} → reading s ≡ read h notes → is_accepted h level ≡ true → Came (acceptance h level fs ps os)
    by-acceptance {h} e t =
        ⊎_elim (λ l. rw (acceptance_short level fs ps os h l) (came_short_order a b e t l))
        (λ g. rw (acceptance-fits level fs ps os h g) (came_accepted a b e t g)) (split (length os) (length (order h level)))

    by-rejection : {h : History} {notes : ℕ} → reading s ≡ read h notes → is_accepted h level ≡ false → Came (rejection h level fs ps os)
    by-rejection {h} e t =
        ⊎_elim (λ l. rw (rejection_short level fs ps os h l) (came_short a b e t l))
        (λ g.
        ⊎_elim (λ l. rw (rejection_short_pairs level fs ps os h g l) (came_short_pairs a b e t g l))
        (λ k. rw (rejection-fits level fs ps os h g k) (came_rejected a b e t g k)) (split (length ps) (length (pair_list h level))))
        (split (length fs) (length (finding_list h)))

    by-reading : (r : Reading) → reading s ≡ r → Came (judged_read r level fs ps os)
    by-reading (refused n p) e = rw (judged_refused level fs ps os n p) (came_refused a b e)
    by-reading (read h notes) e =
        ifso (is_accepted h level) (λ t. rw (judged_accepted level fs ps os h notes t) (by-acceptance e t))
        (λ t. rw (judged_rejected level fs ps os h notes t) (by-rejection e t))

  -- each outcome came about in one of these ways
  pub came : Came (judged s level fs ps os)
  came =
      ifso (is_level level)
      (λ t. let l = (level_test level).0 t in rw (judged_level l.0 l.1) (by-reading l.0 l.1 (reading s) refl))
      (λ t. let d : (1 ≤ level) × (level ≤ 3) → ⊥ = λ l. clash ((level_test level).1 l) t in rw (judged_no_level d) (came_no_level d))

  -- so its report is one of three
  pub outcome_says : ReportIs (judged s level fs ps os).report
  outcome_says = of came
    where
      of : {x : Outcome} → Came x → ReportIs x.report
      of (came_no_level d) = says_declined
      of (came_refused a b e) = says_declined
      of (came_short a b e t l) = says_declined
      of (came_short_pairs a b e t g l) = says_declined
      of (came_rejected a b e t g k) = says_rejected
      of (came_short_order a b e t l) = says_declined
      of (came_accepted a b e t g) = says_accepted

  -- where the reading is known, it decides
  judged-by : {r : Reading} → 1 ≤ level → level ≤ 3 → reading s ≡ r → judged s level fs ps os ≡ judged_read r level fs ps os
  judged-by a b e = judged_level a b ∙ ap (λ (r : Reading). judged_read r level fs ps os) e

  -- and each of these ways leads to the outcome
  pub came_is : {x : Outcome} → Came x → judged s level fs ps os ≡ x
  came_is (came_no_level d) = judged_no_level d
  came_is (came_refused {n} {p} a b e) = judged-by a b e ∙ judged_refused level fs ps os n p
  came_is (came_short {h} {notes} a b e t l) = judged-by a b e ∙ judged_rejected level fs ps os h notes t ∙ rejection_short level fs ps os h l
  came_is (came_short_pairs {h} {notes} a b e t g l) =
      judged-by a b e ∙ judged_rejected level fs ps os h notes t ∙ rejection_short_pairs level fs ps os h g l
  came_is (came_rejected {h} {notes} a b e t g k) = judged-by a b e ∙ judged_rejected level fs ps os h notes t ∙ rejection-fits level fs ps os h g k
  came_is (came_short_order {h} {notes} a b e t l) = judged-by a b e ∙ judged_accepted level fs ps os h notes t ∙ acceptance_short level fs ps os h l
  came_is (came_accepted {h} {notes} a b e t g) = judged-by a b e ∙ judged_accepted level fs ps os h notes t ∙ acceptance-fits level fs ps os h g
