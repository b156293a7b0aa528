-- The second call answers the strongest level that accepts, and nothing else is that.
use Prim.Native.Nat.{ℕ, ◌+◌, ◌<◌, ◌≤◌}
use mathlib.Core.Path.{◌≡◌, refl, ap, sym, ◌∙◌}
use mathlib.Core.Bool.{Bool, true, false}
use mathlib.Core.List.{List}
use mathlib.Core.Logic.{◌↔◌, ⊎_elim, inl}
use native.Mathlib.Omega.{arith}
use Rattle.base.specs.Base.{pick}
use Rattle.base.proofs.Tests.{clash, pick_of, split}
use Rattle.rules.specs.Reading.{Reading, refused, read, reading}
use Rattle.rules.specs.Outcome.{Report, reported}
use Rattle.rules.specs.Outcome.{Answer}
use Rattle.rules.proofs.Outcome.{ReportIs, says_declined, says_rejected, says_accepted, says}
use Rattle.demand1.specs.Rows.{Refuses}
use Rattle.demand1.proofs.Lawful.{lawful_history}
use Rattle.demand1.proofs.Readings.{refuses_iff, has_read, read_has}
use Rattle.demand2.proofs.Accepted.{accepted_iff}
use Rattle.deciding.specs.Deciding.{strongest_no, accepted_read, is_accepted_at, strongest}
use Rattle.decided.specs.Strongest.{LevelAccepts, StrongestIs}
use Rattle.decided.specs.Answered.{AnsweredAt, is_accepting, by_verdicts}
use Rattle.decided.proofs.Room.{accepts_level, accepts_room}

module _ (s : List ℕ) where
  -- ── a level ──

  accepts_of : {level : ℕ} → LevelAccepts s level → is_accepted_at s level ≡ true
  unfolding is_accepted_at accepted_read
  accepts_of a = rw (read_has a.reads) ((accepted_iff (lawful_history a.reads) a.low a.high).1 (a.clean, a.ordered))

  of_reading : (level : ℕ) → 1 ≤ level → level ≤ 3 → (q : Reading) → reading s ≡ q → accepted_read q level ≡ true → LevelAccepts s level
  unfolding accepted_read
  of_reading level l m (refused n p) e t = absurd (clash t refl)
  of_reading level l m (read h notes) e t =
      let i = has_read e in
      let x = (accepted_iff (lawful_history i) l m).0 t in
      record { low = l; high = m; history = h; reads = i; clean = x.0; ordered = x.1 }

  of_accepts : (level : ℕ) → 1 ≤ level → level ≤ 3 → is_accepted_at s level ≡ true → LevelAccepts s level
  unfolding is_accepted_at
  of_accepts level l m t = of_reading level l m (reading s) refl t

  -- the test says whether a level accepts
  pub level_iff : (level : ℕ) → 1 ≤ level → level ≤ 3 → (is_accepted_at s level ≡ true) ↔ LevelAccepts s level
  level_iff level l m = (of_accepts level l m, accepts_of)

  -- a trace that is refused is accepted at no level
  refused_none : {n p : ℕ} → Refuses s n p → (x : ℕ) → LevelAccepts s x → ⊥
  unfolding is_accepted_at accepted_read
  refused_none {n} {p} d x a = clash (rw ((refuses_iff s n p).1 d) at (accepts_of a)) refl

  -- ── the strongest ──

  -- nothing above r accepts
  abbrev NoneAbove : ℕ → Type 0
  NoneAbove r = (x : ℕ) → r < x → LevelAccepts s x → ⊥

  -- r accepts, unless it is 0, and nothing above it does
  record Top (r : ℕ) : Type 0 where
    is : 1 ≤ r → LevelAccepts s r
    above : NoneAbove r

  -- a level that accepts is the top, and one that does not leaves what is below
  top_or : (k n : ℕ) (b : Bool) → (b ≡ true) ↔ LevelAccepts s (k + 1) → (NoneAbove k → Top n) → NoneAbove (k + 1) → Top (pick b (k + 1) n)
  unfolding pick
  top_or k n true i below above = record { is = λ l. i.0 refl; above = above }
  top_or k n false i below above =
      below (λ x l a. ⊎_elim (λ m. above x m a) (λ g. let e : x ≡ k + 1 = omega arith in clash (i.1 (rw e at a)) refl) (split (k + 1) x))

  -- whatever tells of the three levels
  top_of : (b3 b2 b1 : Bool) → (b3 ≡ true) ↔ LevelAccepts s 3 → (b2 ≡ true) ↔ LevelAccepts s 2 → (b1 ≡ true) ↔ LevelAccepts s 1
      → Top (pick b3 3 (pick b2 2 (pick b1 1 0)))
  top_of b3 b2 b1 i3 i2 i1 =
      top_or 2 _ b3 i3 (top_or 1 _ b2 i2 (top_or 0 _ b1 i1 (λ above. record { is = λ l. absurd (omega arith); above = above })))
      (λ x l a. omega (arith, a.high))

  -- ── the theorems ──

  of_top : {r : ℕ} → Top r → StrongestIs s r
  unfolding strongest_no
  of_top {r} t =
      record {
        is_level =
            λ x l. (
              λ e. rw (← e) (t.is (omega arith), t.above),
              λ a.
                  ⊎_elim (λ m. absurd (t.above x m a.0))
                  (λ g. ⊎_elim (λ m. absurd (a.1 r m (t.is (omega arith)))) (λ m. omega arith) (split x r)) (split r x),
            );
        is_none = (
          λ e. inl (λ x a. t.above x (omega (arith, a.low)) a),
          λ n. zero-by (⊎_elim (λ d. d) (λ d. refused_none d.2) n),
        );
      }
    where
      zero-by : ((x : ℕ) → LevelAccepts s x → ⊥) → r ≡ 0
      zero-by d = ⊎_elim (λ m. absurd (d r (t.is (omega arith)))) (λ g. omega arith) (split 0 r)

  -- by the tests of the definition
  by_tests : strongest_no (strongest s) ≡ pick (is_accepted_at s 3) 3 (pick (is_accepted_at s 2) 2 (pick (is_accepted_at s 1) 1 0))
  unfolding strongest strongest_no
  by_tests =
      pick_of strongest_no (is_accepted_at s 3) _ _
      ∙ ap (pick (is_accepted_at s 3) 3) (pick_of strongest_no (is_accepted_at s 2) _ _ ∙ ap (pick (is_accepted_at s 2) 2) (pick_of strongest_no (is_accepted_at s 1) _ _))

  pub strongest-is : (r : ℕ) → r ≡ strongest_no (strongest s) → StrongestIs s r
  strongest-is r e =
      rw (e, by_tests)
      (of_top (top_of _ _ _ (level_iff 3 (omega arith) (omega arith)) (level_iff 2 (omega arith) (omega arith)) (level_iff 1 (omega arith) (omega arith))))

  -- by answers that meet the demands, whoever gave them: an acceptance says that the level accepts
  verdict_iff : {level : ℕ} {r : Answer} → AnsweredAt s level r → (is_accepting (reported r).verdict ≡ true) ↔ LevelAccepts s level
  unfolding is_accepting
  verdict_iff {level} {r} a = (
    of (says r) refl,
    λ l. let e = (a.demands.second.accepted _).1 (accepts_room s level a.room l).1 in rw e refl,
  )
    where
      of : {R : Report} → ReportIs R → reported r ≡ R → is_accepting R.verdict ≡ true → LevelAccepts s level
      of says_declined e t = absurd (clash t refl)
      of says_rejected e t = absurd (clash t refl)
      of (says_accepted {n}) e t = accepts_level s level ((a.demands.second.accepted n).0 e)

  -- "Both rely on the judge's promises alone"
  pub strongest-by_demands : (third second first : Answer) → AnsweredAt s 3 third → AnsweredAt s 2 second → AnsweredAt s 1 first
      → StrongestIs s (by_verdicts (reported third).verdict (reported second).verdict (reported first).verdict)
  unfolding by_verdicts
  strongest-by_demands third second first x y z = of_top (top_of _ _ _ (verdict_iff x) (verdict_iff y) (verdict_iff z))

  -- there is one such number
  pub strongest_one : (r q : ℕ) → StrongestIs s r → StrongestIs s q → r ≡ q
  unfolding strongest_no
  strongest_one r q x y =
      ⊎_elim (λ m. sym ((y.is_level r (omega arith)).1 ((x.is_level r (omega arith)).0 refl)))
      (λ g. let e : r ≡ 0 = omega arith in e ∙ sym (y.is_none.1 (x.is_none.0 e))) (split 0 r)
