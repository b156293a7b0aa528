-- A history is accepted exactly if its reads are clean and it has a commit order; the order that is shown is the first one.
use Prim.Native.Nat.{ℕ, ◌<◌, ◌≤◌}
use mathlib.Core.Path.{◌≡◌, ap, sym, ◌∙◌}
use mathlib.Core.Bool.{Bool, true}
use mathlib.Core.Logic.{inl, inr, ⊎_elim, ◌↔◌}
use mathlib.Core.List.{List, []}
use native.Mathlib.Omega.{arith}
use lib.ListN.{length}
use lib.Dec.{ltb}
use borrow.Author.Tests.{ltb-true, lt-ltb}
use Rattle.base.specs.Base.{◌and◌, count}
use Rattle.base.proofs.Tests.{both, and_left, and_right, split}
use Rattle.theory.specs.Leads.{Leads, step, then, Listed}
use Rattle.theory.specs.Order.{place, Lawful}
use Rattle.theory.proofs.Leads.{none-listed}
use Rattle.theory.proofs.Places.{place_at, place_same}
use Rattle.theory.proofs.Entries.{number_one, those-all_of, number-those}
use Rattle.theory.proofs.Order.{rest-is-first, lawful_iff, lawful_length, lex_both}
use Rattle.rules.specs.History.{History, size, committed}
use Rattle.rules.specs.Levels.{forced}
use Rattle.rules.specs.Numbers.{over}
use Rattle.rules.specs.Outcome.{pairs, order, is_accepted, Outcome}
use Rattle.rules.proofs.Forced.{forces, pairs_iff}
use Rattle.rules.proofs.Outcome.{accepted_empty}
use Rattle.demand1.specs.Lawful.{LawfulHistory}
use Rattle.demand2.specs.Kinds.{AllClean}
use Rattle.demand2.specs.Axiom.{Member, StrictTotal, Commits, SomeOrder, ByTest, HasOrder, Lists, StandsBefore, Shows, FirstShown}
use Rattle.demand2.specs.Accepted.{CommittedCount, OrderWritten}
use Rattle.demand2.proofs.Kind.{findings_iff}
use Rattle.demand2.proofs.Pairs.{member, in_members}
use Rattle.demand2.proofs.Axiom.{obeys_iff}

-- ── orders as lists ──

-- places in a list that has each committed transaction once are a strict total order
pub lists_total : {h : History} {o : List ℕ} → Lists h o → StrictTotal h (StandsBefore o)
lists_total {h} {o} s =
    record {
      members = λ a b x. (at a (omega (arith, x.earlier, x.there)), at b x.there);
      never = λ a x. omega (arith, x.earlier);
      on = λ a b c x y. record { earlier = omega (arith, x.earlier, y.earlier); there = y.there };
      either =
          λ a b m n d.
          let k = s.all a m in
          let l = s.all b n in
          ⊎_elim (λ e. inl (record { earlier = e; there = l }))
          (λ e. ⊎_elim (λ f. inr (record { earlier = f; there = k })) (λ f. absurd (d (place_same a b o k l (omega arith)))) (split (place b o) (place a o)))
          (split (place a o) (place b o));
    }
  where
    at : (a : ℕ) → place a o < length o → Member h a
    at a l = rw (place_at a o l) at (s.are (place a o) l)

module _ {h : History} (ok : LawfulHistory h) {level : ℕ} (low : 1 ≤ level) (high : level ≤ 3) (clean : AllClean h) where
  -- a list shows a commit order exactly if it is a lawful order
  pub shows_iff : (o : List ℕ) → Shows h level o ↔ Lawful (size h) (committed h) (forced h level) o
  shows_iff o = (
    λ s.
        let l = s.lists in
        record {
          lists = λ i k. let m = l.are i k in (m.below, in_members ok m);
          once = l.once;
          has = λ a k c. l.all a (member ok c);
          first = l.zero_first;
          before = λ a b e. ((obeys_iff ok clean (StandsBefore o) low high s.commits.order).0 s.commits.obeys a b e).earlier;
        },
    λ w.
        let l : Lists h o =
        record {
          are = λ i k. member ok (w.lists i k).1;
          once = w.once;
          all = λ a m. w.has a m.below (in_members ok m);
          zero_first = w.first;
        } in
        record {
          lists = l;
          commits =
              record {
                order = lists_total l;
                obeys =
                    (obeys_iff ok clean (StandsBefore o) low high (lists_total l)).1
                    (λ a b e. let m = (forces h level).second_in a b e in record { earlier = w.before a b e; there = w.has b m.0 m.1 });
              };
        },
  )

  -- a commit order has what the forced pairs lead to, so no pair is listed
  commits-leads : (C : ℕ → ℕ → Type 0) → Commits h level C → {a b : ℕ} → Leads (forced h level) a b → C a b
  commits-leads C c (step e) = (obeys_iff ok clean C low high c.order).0 c.obeys _ _ e
  commits-leads C c (then e p) = c.order.on _ _ _ ((obeys_iff ok clean C low high c.order).0 c.obeys _ _ e) (commits-leads C c p)

  pub commits-none : (C : ℕ → ℕ → Type 0) → Commits h level C → (a b : ℕ) → Listed (forced h level) a b → ⊥
  commits-none C c = none-listed (λ a p. c.order.never a (commits-leads C c p))

  -- no pair is listed exactly if some list shows a commit order
  pub no_pairs_iff : (pairs h level ≡ []) ↔ ((o : List ℕ) × Shows h level o)
  no_pairs_iff =
      let p = pairs_iff h level in
      let l = lawful_iff (forces h level) in
      (λ e. let o = l.1 (p.0 e) in (o.0, (shows_iff o.0).1 o.1), λ s. p.1 (l.0 (s.0, (shows_iff s.0).0 s.1)))

  -- a commit order exists exactly if some list shows one
  pub commits_iff : ((C : ℕ → ℕ → Type 0) × Commits h level C) ↔ ((o : List ℕ) × Shows h level o)
  commits_iff =
      (λ c. no_pairs_iff.0 ((pairs_iff h level).1 (commits-none c.0 c.1)), λ s. (StandsBefore s.0, s.1.commits))

  -- the order that is computed is then the first such list, and has each committed transaction once
  pub order-is-first : {o : List ℕ} → Shows h level o → FirstShown h level (order h level)
  unfolding order
  order-is-first {o} s =
      let r = rest-is-first (forces h level) ((shows_iff o).0 s) in
      record { shows = (shows_iff _).1 r.lawful; first = λ q t. r.first ((shows_iff q).0 t) }

  pub shown_length : {o : List ℕ} → Shows h level o → length o ≡ count 0 (size h) (committed h)
  shown_length {o} s = lawful_length ((shows_iff o).0 s)

-- the committed transactions are as many as are counted
pub committed-number : {h : History} → LawfulHistory h → CommittedCount h (count 0 (size h) (committed h))
committed-number {h} ok =
    number-those (committed h) 0 (size h)
    (those-all_of (committed h) 0 (size h) (λ i. (λ m. (omega arith, m.below, in_members ok m), λ a l t. member ok t)))

-- no other list is the first
pub first_only : {h : History} {level : ℕ} {o q : List ℕ} → FirstShown h level o → FirstShown h level q → o ≡ q
first_only x y = lex_both (x.first _ y.shows) (y.first _ x.shows)

-- ── acceptance ──

-- what holds of a relation holds of one with the same pairs
commits_as : {h : History} {level : ℕ} {C D : ℕ → ℕ → Type 0} → ((a b : ℕ) → C a b ↔ D a b) → Commits h level C → Commits h level D
commits_as e c =
    record {
      order =
          record {
            members = λ a b x. c.order.members a b ((e a b).1 x);
            never = λ a x. c.order.never a ((e a a).1 x);
            on = λ a b d x y. (e a d).0 (c.order.on a b d ((e a b).1 x) ((e b d).1 y));
            either = λ a b m n d. ⊎_elim (λ x. inl ((e a b).0 x)) (λ x. inr ((e b a).0 x)) (c.order.either a b m n d);
          };
      obeys =
          record {
            holds_so = λ a b x. (e a b).0 (c.obeys.holds_so a b x);
            holds_wr = λ a b x. (e a b).0 (c.obeys.holds_wr a b x);
            published = λ t1 t2 t3 x i d r m w s. (e t2 t1).0 (c.obeys.published t1 t2 t3 x i d r m w s);
          };
    }

-- whether a stands before b in the list o
abbrev stands : List ℕ → ℕ → ℕ → Bool
stands o a b = ltb (place a o) (place b o) and ltb (place b o) (length o)

stands_iff : (o : List ℕ) (a b : ℕ) → StandsBefore o a b ↔ ByTest (stands o) a b
stands_iff o a b = (
  λ x. both _ _ (lt-ltb _ _ x.earlier) (lt-ltb _ _ x.there),
  λ t. record { earlier = ltb-true _ _ (and_left _ _ t); there = ltb-true _ _ (and_right _ _ t) },
)

module _ {h : History} (ok : LawfulHistory h) {level : ℕ} (low : 1 ≤ level) (high : level ≤ 3) where
  module _ (clean : AllClean h) where
    -- a commit order that a test gives exists exactly if some list shows one
    pub has_order_iff : HasOrder h level ↔ ((o : List ℕ) × Shows h level o)
    has_order_iff =
        (λ c. (commits_iff ok low high clean).0 (ByTest c.0, c.1), λ s. (stands s.0, commits_as (stands_iff s.0) s.1.commits))

    -- so one exists exactly if there is a commit order of any kind
    pub any_order_iff : HasOrder h level ↔ SomeOrder h level
    any_order_iff = (λ c. (ByTest c.0, c.1), λ c. has_order_iff.1 ((commits_iff ok low high clean).0 c))

    -- and exactly if the list of pairs is empty
    pub empty-pairs_iff : (pairs h level ≡ []) ↔ HasOrder h level
    empty-pairs_iff = (λ e. has_order_iff.1 ((no_pairs_iff ok low high clean).0 e), λ c. (no_pairs_iff ok low high clean).1 (has_order_iff.0 c))

  -- accepted exactly if every read is clean and there is a commit order
  pub accepted_iff : (is_accepted h level ≡ true) ↔ (AllClean h × HasOrder h level)
  accepted_iff =
      let f = findings_iff ok in
      let a = accepted_empty h level in (
        λ t. let e = a.0 t in let clean = f.0 e.0 in (clean, (empty-pairs_iff clean).0 e.1),
        λ x. a.1 (f.1 x.0, (empty-pairs_iff x.0).1 x.1),
      )

  -- and then the order that is computed is the first one
  pub order-first : is_accepted h level ≡ true → FirstShown h level (order h level)
  order-first t = let a = accepted_iff.0 t in order-is-first ok low high a.0 ((has_order_iff a.0).0 a.1).1

  -- with one entry a committed transaction
  pub order-number : is_accepted h level ≡ true → {n : ℕ} → CommittedCount h n → length (order h level) ≡ n
  order-number t c =
      shown_length ok low high (accepted_iff.0 t).0 (order-first t).shows ∙ number_one ◌<◌ (λ i j a b. omega arith) (committed-number ok) c

-- ── written ──

-- the first commit order leaves one content of each buffer
pub order-written_one : {h : History} {level n : ℕ} {fs ps os : List ℕ} {x y : Outcome} → OrderWritten h level n fs ps os x → OrderWritten h level n fs ps os y
    → (x.findings ≡ y.findings) × (x.pairs ≡ y.pairs) × (x.order ≡ y.order)
order-written_one {os = os} a b =
    (a.findings ∙ sym b.findings, a.pairs ∙ sym b.pairs, a.order ∙ ap (λ (z : List ℕ). over z os) (first_only a.first b.first) ∙ sym b.order)
