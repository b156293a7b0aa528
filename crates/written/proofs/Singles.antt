-- A history that steps grew whose fields fit has single values only, and nothing mixes there.
use mathlib.Core.Path.{◌≡◌}
use mathlib.Core.Bool.{false}
use mathlib.Core.List.{List, []}
use Rattle.rules.specs.History.{History, current}
use Rattle.rules.specs.Reading.{mixes}
use Rattle.rules.specs.declared.Event.{Event}
use Rattle.rules.specs.declared.Event.TheVariants.{Open, Read, Write, Close, End, Note, Other}
use Rattle.rules.proofs.Singles.{Singles, Single, singles_none, single_unmixed, singles_entered}
use Rattle.writing.proofs.Grown.{Grown, grown_none, grown_step}
use Rattle.written.proofs.Records.{Narrow, narrow_open, narrow_read, narrow_write, narrow_close, narrow_end}
use Rattle.written.proofs.Slim.{Slim, EachSlim, slim_front, slim_at}

-- an event whose fields fit has a key with single values
slim_single : (e : Event) → Slim e → Single e
unfolding Slim Single
slim_single (Open s) k = tt
slim_single (Read x v) k = k.0
slim_single (Write x v) k = k.0
slim_single (Close c) k = tt
slim_single (End n) k = tt
slim_single Note k = tt
slim_single Other k = tt

narrow_single : {e : Event} → Narrow e → Single e
unfolding Single
narrow_single (narrow_open l) = tt
narrow_single (narrow_read l k) = l
narrow_single (narrow_write l k) = l
narrow_single (narrow_close l) = tt
narrow_single (narrow_end l) = tt

pub grown_singles : {es : List Event} {h : History} → Grown es h → EachSlim es → Singles h
grown_singles grown_none a = singles_none
grown_singles (grown_step {es} {h} e g t) a =
    singles_entered h (grown_singles g (slim_front es e a)) (current h) e (slim_single e (slim_at es e [] a))

-- row 17 passes what fits
pub narrow_unmixed : (h : History) → Singles h → {e : Event} → Narrow e → mixes h e ≡ false
narrow_unmixed h s {e} n = single_unmixed h s e (narrow_single n)
