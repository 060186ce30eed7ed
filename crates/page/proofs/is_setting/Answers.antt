-- `page::is_setting` meets its contract: the library's search of the row is the definition's, and the row is its twenty settings.
use Rattle.std.proofs.Common.{◌∙◌}
use Rattle.page.specs.Page.{is_setting}
use Rattle.page.specs.PageLaws.{among-any}
use Rattle.page.proofs.is_setting.Goals as goal

pub returns : goal.returns
unfolding is_setting
returns c = c.contains.ensures.value ∙ among-any _ _
