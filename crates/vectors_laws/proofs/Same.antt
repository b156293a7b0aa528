-- The vectors say the same as the table of basic reachability. Only the request asks that there be no cycle: what is known says it with one too.
use Prim.Native.Nat.{ℕ, ◌<◌}
use mathlib.Core.Path.{◌≡◌, sym}
use mathlib.Core.Bool.{true, false}
use mathlib.Core.List.{List}
use mathlib.Core.Logic.{◌↔◌, ⊎_elim}
use Rattle.base.specs.Base.{◌and◌}
use Rattle.base.proofs.Tests.{known, clash, is_false}
use Rattle.rules.specs.History.{History, committed}
use Rattle.rules.specs.Levels.{leads}
use Rattle.rules.proofs.Forced.{leads-committed}
use Rattle.demand1.specs.Lawful.{LawfulHistory}
use Rattle.demand1.proofs.Lawful.{lawful_history}
use Rattle.demand2.specs.Axiom.{Member}
use Rattle.demand2.proofs.Pairs.{member, in_members}
use Rattle.demand3.specs.Forced.{Way, IsBasic}
use Rattle.vectors_rules.specs.Vectors.{session_no, latest_of, vector_of, told_by}
use Rattle.vectors_rules.proofs.Greatest.{greatest_same}
use Rattle.vectors_rules.proofs.Latest.{leads-first, entry-tells, vectors_tell}
use Rattle.vectors_rules.proofs.Own.{sources_tell}
use Rattle.vectors_rules.proofs.History.{basics}
use Rattle.vectors_laws.specs.Vectors.{VectorsOf, OwnVectorsOf, NoBasicCycle, Say, AtMost, SameAsTable, SameAsSources}
use Rattle.vectors_laws.proofs.Vectors.{to_way, from_way, to_known, from_known, own_vectors_one}

module _ {h : History} (ok : LawfulHistory h) where
  -- a leads to b exactly if the vectors say so
  pub say_iff : {v : ℕ → ℕ → ℕ} → VectorsOf h v → (a b : ℕ) → 0 < a → Say h v a b ↔ Way (IsBasic h) a b
  unfolding session_no
  say_iff x a b z =
      let g = greatest_same (λ c _ k. from_known ok b (session_no h a) c k) (λ c _ k. to_known ok b (session_no h a) c k) (x.is b (session_no h a)) in (
        λ y. to_way ok ((entry-tells (basics h) a b z (in_members ok y.member) g).0 y.at_most),
        λ w.
            let p = from_way ok w in
            let m = (leads-first (basics h).forces p).1 in
            record { member = member ok m; at_most = (entry-tells (basics h) a b z m g).1 p },
      )

  -- "when basic pairs form no cycle, they say the same for every two different transactions besides 0"
  pub same_as_table : {v : ℕ → ℕ → ℕ} → VectorsOf h v → NoBasicCycle h → (a b : ℕ) → (a ≡ b → ⊥) → 0 < a → 0 < b → Say h v a b ↔ Way (IsBasic h) a b
  same_as_table x _ a b _ z _ = say_iff x a b z

  -- the sources' way of saying it, with each transaction in its own vector
  pub sources_say : {v : ℕ → ℕ → ℕ} → OwnVectorsOf h v → (a b : ℕ) → Member h a → Member h b → 0 < a → 0 < b → (a ≡ b → ⊥)
      → AtMost v a b ↔ Way (IsBasic h) a b
  unfolding vector_of latest_of
  sources_say x a b m n z _ d =
      let e = own_vectors_one ok x in
      let t = sources_tell (basics h) a b z n.below (in_members ok m) d in (
        λ le. to_way ok (t.0 (λ s. rw (sym (e a s), sym (e b s)) (le s))),
        λ w s. rw (e a s, e b s) (t.1 (from_way ok w) s),
      )

-- the two as they compute, of any history
pub told-is-leads : (h : History) (a b : ℕ) → 0 < a → told_by h a b ≡ leads h a b
unfolding told_by latest_of leads ◌and◌
told-is-leads h a b z =
    ⊎_elim (λ (c : committed h a ≡ true). rw c (vectors_tell (basics h) a b z c))
    (λ (c : committed h a ≡ false). rw c (sym (is_false (leads h a b) (λ e. clash (leads-committed h a b e) c))))
    (known (committed h a))

-- so it is of every trace
pub trace-same : (s : List ℕ) → SameAsTable s
trace-same s = record { says = λ h r f v x a b d z y. same_as_table (lawful_history r) x f a b d z y }

pub trace_sources : (s : List ℕ) → SameAsSources s
trace_sources s = record { says = λ h r v x a b m n z y d. sources_say (lawful_history r) x a b m n z y d }
