-- A yes, about any bytes: the trace is read, its reads are clean, and the claim is a commit order of the level by the published axioms.
use Prim.Native.Nat.{ℕ}
use mathlib.Core.Path.{◌≡◌, ap}
use mathlib.Core.List.{List}
use mathlib.Core.Logic.{◌↔◌}
use native.Mathlib.Omega.{arith}
use Rattle.rules.specs.History.{History}
use Rattle.demand1.proofs.Lawful.{lawful_history}
use Rattle.demand2.specs.Kinds.{AllClean}
use Rattle.demand2.specs.Axiom.{Shows}
use Rattle.claims_rules.specs.Claims.{Reply, holds, claimed}
use Rattle.claims_rules.proofs.Claims.{reply_case}
use Rattle.claims_laws.specs.Claims.{ClaimSays, right, wrong_read, wrong_members, wrong_pair, Claims, no_level, reading_refused, of_history, RightClaim, RightInWords}
use Rattle.claims_laws.proofs.Backwards.{right_iff}
use Rattle.claims_laws.proofs.Claims.{claims, claims-is}

module _ (s : List ℕ) (level : ℕ) (o : List ℕ) where
  said_right : {h : History} {x : Reply} → ClaimSays h level o x → x ≡ holds → AllClean h × Shows h level o
  said_right (right c y) e = (c, y)
  said_right (wrong_read f) e = absurd (omega (arith, ap reply_case e))
  said_right (wrong_members c w) e = absurd (omega (arith, ap reply_case e))
  said_right (wrong_pair c l x) e = absurd (omega (arith, ap reply_case e))

  is_right : {x : Reply} → Claims s level o x → x ≡ holds → RightClaim s level o
  is_right (no_level d) e = absurd (omega (arith, ap reply_case e))
  is_right (reading_refused a b r) e = absurd (omega (arith, ap reply_case e))
  is_right (of_history {h} a b i x) e =
      let y = said_right x e in record { low = a; high = b; history = h; reads = i; clean = y.0; shows = y.1 }

  -- "Yes exactly if", by the published axioms
  pub yes_iff : (claimed s level o ≡ holds) ↔ RightClaim s level o
  yes_iff = (λ e. is_right (claims s level o) e, λ r. claims-is s level o (of_history r.low r.high r.reads (right r.clean r.shows)))

  -- .. and in the document's words
  pub words_iff : (claimed s level o ≡ holds) ↔ RightInWords s level o
  words_iff = (
    λ e.
        let r = yes_iff.0 e in
        record {
          low = r.low;
          high = r.high;
          history = r.history;
          reads = r.reads;
          order = (right_iff (lawful_history r.reads) r.low r.high o).1 (r.clean, r.shows);
        },
    λ w.
        let x = (right_iff (lawful_history w.reads) w.low w.high o).0 w.order in
        yes_iff.1 (record { low = w.low; high = w.high; history = w.history; reads = w.reads; clean = x.0; shows = x.1 }),
  )
