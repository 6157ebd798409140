-- `find::setting_at` meets its contract: what word ensures.
use Rattle.find.proofs.setting_at.Goals as goal

pub returns : goal.returns
returns c = c.word.ensures
