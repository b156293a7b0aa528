use Rattle.order.proofs.Sets.{plus_words}
use Rattle.order.proofs.with.Goals as goal

pub returns : goal.returns
returns c = plus_words _ _ _ c.word_with.ensures c.word_with-2.ensures
