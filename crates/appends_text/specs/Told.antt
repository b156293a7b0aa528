-- The text of the counts and of the lists that a call has left in its buffers.
use Rattle.std.specs.Prelude.{ℕ, ◌*◌, List, ◌++◌, drop}
use Rattle.entries.specs.declared.Lines.TheVariants.{ReadLines, WriteLines, BothLines}
use Rattle.entries.specs.Entries.{list_text}
use Rattle.appends_text.specs.ListsText.{lists_line}

-- of n findings in f, of w pairs over write dependencies at the front of p, and of b pairs over both behind them
unfoldable pub counted_text : ℕ → ℕ → ℕ → List ℕ → List ℕ → List ℕ
counted_text n w b f p =
    lists_line n w b ++ (list_text ReadLines f n ++ (list_text WriteLines p w ++ list_text BothLines (drop (4 * w) p) b))
