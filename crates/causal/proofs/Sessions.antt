-- Columns stand for sessions: what a transaction's vector has at the column of another is what it has for that one's session.
use Prim.Native.Nat.{ℕ, ◌<◌}
use mathlib.Core.Path.{◌≡◌, sym}
use mathlib.Core.Bool.{true}
use mathlib.Core.Logic.{inl, inr}
use native.Mathlib.Omega.{arith}
use Rattle.rules.specs.History.{History, committed}
use Rattle.rules.specs.Levels.{basic}
use Rattle.vectors_rules.specs.Latest.{KnowsOrIs}
use Rattle.vectors_rules.specs.Vectors.{session_no, latest_of, vector_of}
use Rattle.vectors_rules.proofs.Greatest.{greatest_same, greatest_none}
use Rattle.vectors_rules.proofs.Latest.{leads-first}
use Rattle.vectors_rules.proofs.Own.{own_is, own_one}
use Rattle.vectors_rules.proofs.History.{basic_forces}
use Rattle.columns.specs.Columns.{column_at}
use Rattle.columns.proofs.Columns.{column_from, column_same}
use Rattle.causal.specs.Causal.{column_entry}

module _ (h : History) where
  -- known, or itself, by the column of a, and by its session
  abbrev ByColumn : ℕ → ℕ → ℕ → Type 0
  ByColumn t a = KnowsOrIs (committed h) (column_at h) (basic h) t (column_at h a)

  abbrev BySession : ℕ → ℕ → ℕ → Type 0
  BySession t a = KnowsOrIs (committed h) (session_no h) (basic h) t (session_no h a)

  module _ (t a : ℕ) (l : 0 < a) (c : committed h a ≡ true) where
    to_session : (y : ℕ) → 0 < y → ByColumn t a y → BySession t a y
    unfolding session_no
    to_session y z (inl k) = inl (record { of = (column_same h y a (leads-first (basic_forces h) k.way).1 c z l).0 k.of; way = k.way })
    to_session y z (inr o) = let e = o.is in inr (record { is = e; member = o.member; of = (column_same h t a o.member c (omega arith) l).0 o.of })

    from_session : (y : ℕ) → 0 < y → BySession t a y → ByColumn t a y
    unfolding session_no
    from_session y z (inl k) = inl (record { of = (column_same h y a (leads-first (basic_forces h) k.way).1 c z l).1 k.of; way = k.way })
    from_session y z (inr o) = let e = o.is in inr (record { is = e; member = o.member; of = (column_same h t a o.member c (omega arith) l).1 o.of })

    pub entry-session : column_entry h t (column_at h a) ≡ vector_of h t (session_no h a)
    unfolding column_entry vector_of latest_of
    entry-session =
        own_one (basic_forces h) t (session_no h a) _ (greatest_same to_session from_session (own_is {ses = column_at h} (basic_forces h) t (column_at h a)))

  -- column 0 is no one's besides 0
  no_one : (t y : ℕ) → 0 < y → KnowsOrIs (committed h) (column_at h) (basic h) t 0 y → ⊥
  no_one t y z (inl k) = let e = k.of in omega (arith, column_from h y z (leads-first (basic_forces h) k.way).1)
  no_one t y z (inr o) = let e = o.is in let q = o.of in omega (arith, column_from h t (omega arith) o.member)

  pub entry-none : (t : ℕ) → column_entry h t 0 ≡ 0
  unfolding column_entry
  entry-none t = sym (own_one {ses = column_at h} (basic_forces h) t 0 0 (greatest_none (no_one t)))
