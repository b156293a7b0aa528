-- What the judge's answer shows of a trace where room is lent for an order and none for lists; and the strongest level by it.
use Prim.Native.Nat.{ℕ, ◌<◌, ◌≤◌}
use mathlib.Core.Path.{◌≡◌, refl, ap, sym, ◌∙◌}
use mathlib.Core.Bool.{Bool, false, true}
use mathlib.Core.List.{List}
use mathlib.Core.Logic.{◌⊎◌, inl, inr, ⊎_elim}
use native.Mathlib.Omega.{arith}
use lib.ListN.{length}
use borrow.Author.Tests.{eq-eqb, ne_eqb, lt-ltb, le-ltb}
use Rattle.base.proofs.Tests.{ifso, clash, split, pick_on, pick_off}
use Rattle.rules.specs.History.{History}
use Rattle.rules.specs.Reading.{Reading, refused, read, reading}
use Rattle.rules.specs.Outcome.{findings, Verdict, declines, rejects, accepts, Outcome, outcome, reported, is_accepted, judged}
use Rattle.rules.specs.Outcome.{Answer}
use Rattle.std.specs.Prelude.{Ok, Err}
use Rattle.rules.specs.Refusals.{cause_no}
use Rattle.rules.specs.declared.Refusal.{Refusal}
use Rattle.rules.specs.declared.Ruling.TheVariants.{Rejected, Accepted}
use Rattle.rules.proofs.Outcome.{is_accepted_lem, found_rejected, Came, came_no_level, came_refused, came_short, came_short_pairs, came_rejected, came_short_order, came_accepted, came}
use Rattle.rules.proofs.Lists.{findings-long, pairs-long}
use Rattle.demand1.proofs.Readings.{refuses_iff}
use Rattle.demand1.proofs.Lengths.{lawful_reading, order_few, refused_numbers}
use Rattle.deciding.specs.Deciding.{accepted_read, is_accepted_at, strongest}
use Rattle.deciding.specs.declared.Strongest.TheVariants.{NoLevel, ReadCommitted, ReadAtomicity, Causal}
use Rattle.ferozhak.specs.Calls.{without_lists, seen_of, seen_read, seen_at, below_causal}
use Rattle.ferozhak.specs.declared.Seen.{Seen}
use Rattle.ferozhak.specs.declared.Seen.TheVariants.{Here, NotHere, Nowhere}

-- ── a refusal without room for lists ──

pub refused_pairs : (n : ℕ) → n ≡ 13 → without_lists n ≡ NotHere
unfolding without_lists
refused_pairs n e = pick_on _ _ _ (eq-eqb n 13 e)

pub refused_else : (n : ℕ) → (n ≡ 13 → ⊥) → without_lists n ≡ Nowhere
unfolding without_lists
refused_else n d = pick_off _ _ _ (ne_eqb n 13 d)

-- a trace that is not read is not refused with that number
never_13 : {n : ℕ} → ((2 ≤ n) × (n ≤ 11)) ⊎ (n ≡ 17) → n ≡ 13 → ⊥
never_13 (inl m) e = omega (arith, m.1)
never_13 (inr q) e = omega arith

-- ── the answer ──

-- what is made of a report: a refusal counts by its number
abbrev made_of : Verdict → ℕ → Seen
made_of declines n = without_lists n
made_of rejects n = NotHere
made_of accepts n = Here

seen_made : (a : Answer) → seen_of a ≡ made_of (reported a).verdict (reported a).no
unfolding seen_of reported
seen_made (Err r) = refl
seen_made (Ok (Rejected f p)) = refl
seen_made (Ok (Accepted n)) = refl

-- what a look says is so: the level accepts the trace s, or does not, or none does
abbrev LookSays : List ℕ → ℕ → Seen → Type 0
LookSays s level Here = is_accepted_at s level ≡ true
LookSays s level NotHere = is_accepted_at s level ≡ false
LookSays s level Nowhere = (x : ℕ) → is_accepted_at s x ≡ false

module _ (s : List ℕ) where
  -- a level accepts what was read, or does not
  at_read : (level : ℕ) {h : History} {notes : ℕ} {b : Bool} → reading s ≡ read h notes → is_accepted h level ≡ b → is_accepted_at s level ≡ b
  unfolding is_accepted_at accepted_read
  at_read level e t = rw e t

  -- and none accepts what was not
  pub at_none : {n p : ℕ} → reading s ≡ refused n p → (x : ℕ) → is_accepted_at s x ≡ false
  unfolding is_accepted_at accepted_read
  at_none e x = rw e

  -- ── a look at a level ──

  module _ (level : ℕ) where
    seen_refused : {n p : ℕ} → reading s ≡ refused n p → seen_at s level ≡ Nowhere
    unfolding seen_at seen_read
    seen_refused e = rw e refl

    module _ {h : History} {notes : ℕ} (e : reading s ≡ read h notes) where
      seen_here : is_accepted h level ≡ true → seen_at s level ≡ Here
      unfolding seen_at seen_read
      seen_here t = rw e (pick_on _ _ _ t)

      seen_nowhere : 0 < length (findings h) → seen_at s level ≡ Nowhere
      unfolding seen_at seen_read
      seen_nowhere l = rw e (pick_off _ _ _ (found_rejected h level l) ∙ pick_on _ _ _ (lt-ltb _ _ l))

      seen_not : is_accepted h level ≡ false → length (findings h) ≤ 0 → seen_at s level ≡ NotHere
      unfolding seen_at seen_read
      seen_not t l = rw e (pick_off _ _ _ t ∙ pick_off _ _ _ (le-ltb _ _ l))

    looked : (q : Reading) → reading s ≡ q → LookSays s level (seen_at s level)
    looked (refused n p) e = rw (seen_refused e) (at_none e)
    looked (read h notes) e =
        ifso (is_accepted h level) (λ t. rw (seen_here e t) (at_read level e t))
        (λ t.
        ⊎_elim (λ l. rw (seen_nowhere e l) (λ x. at_read x e (found_rejected h x l))) (λ g. rw (seen_not e t g) (at_read level e t))
        (split 0 (length (findings h))))

    pub look_says : {d : Seen} → d ≡ seen_at s level → LookSays s level d
    look_says e = rw e (looked (reading s) refl)

  module _ (level : ℕ) (fs ps os : List ℕ) (low : 1 ≤ level) (high : level ≤ 3) (no_findings : length fs ≡ 0) (no_pairs : length ps ≡ 0) (room : 128 ≤ length os) where
    -- 2 to 11 are given to what is not read, 12 where there is a finding, 13 where there are pairs alone; nothing is rejected, since one of the lists is not
    -- empty, and an order is never too long for 128 bytes
    by_came : {x : Outcome} → Came s level fs ps os x → made_of x.report.verdict x.report.no ≡ seen_at s level
    by_came (came_no_level d) = absurd (d (low, high))
    by_came (came_refused {n} {p} a b e) = refused_else n (never_13 (refused_numbers ((refuses_iff s n p).0 e))) ∙ sym (seen_refused level e)
    by_came (came_short {h} a b e t l) = refused_else 12 (λ q. omega arith) ∙ sym (seen_nowhere level e (omega (arith, l, findings-long h)))
    by_came (came_short_pairs {h} a b e t g l) = refused_pairs 13 refl ∙ sym (seen_not level e t (omega (arith, g, findings-long h)))
    by_came (came_rejected {h} a b e t g k) =
        absurd (clash (is_accepted_lem h level (omega (arith, g, findings-long h)) (omega (arith, k, pairs-long h level))) t)
    by_came (came_short_order a b e t l) = absurd (omega (arith, order_few (lawful_reading s e) level))
    by_came (came_accepted a b e t g) = sym (seen_here level e t)

    module _ (a : Answer) {F P O : List ℕ} (is : outcome (reported a) F P O ≡ judged s level fs ps os) where
      made : made_of (reported a).verdict (reported a).no ≡ seen_at s level
      made = rw (ap (λ (x : Outcome). x.report) is) (by_came (came s level fs ps os))

      pub looks : {d : Seen} → d ≡ seen_of a → d ≡ seen_at s level
      looks e = e ∙ seen_made a ∙ made

  -- ── the strongest ──

  pub strongest_third : is_accepted_at s 3 ≡ true → Causal ≡ strongest s
  unfolding strongest
  strongest_third e = sym (pick_on _ _ _ e)

  pub strongest_below : is_accepted_at s 3 ≡ false → below_causal s ≡ strongest s
  unfolding strongest
  strongest_below e = sym (pick_off _ _ _ e)

  pub below_second : is_accepted_at s 2 ≡ true → ReadAtomicity ≡ below_causal s
  below_second e = sym (pick_on _ _ _ e)

  pub below_first : is_accepted_at s 2 ≡ false → is_accepted_at s 1 ≡ true → ReadCommitted ≡ below_causal s
  below_first e f = sym (pick_off _ _ _ e ∙ pick_on _ _ _ f)

  pub below_none : is_accepted_at s 2 ≡ false → is_accepted_at s 1 ≡ false → NoLevel ≡ below_causal s
  below_none e f = sym (pick_off _ _ _ e ∙ pick_off _ _ _ f)

  pub strongest-none : ((level : ℕ) → is_accepted_at s level ≡ false) → NoLevel ≡ strongest s
  strongest-none f = below_none (f 2) (f 1) ∙ strongest_below (f 3)
