-- `memory::format_words` meets its contract.
use Rattle.std.proofs.Common.{◌∙◌}
use Rattle.model.specs.Records.{root_sized}
use Rattle.memory.proofs.FormattedParts.{can_list, root_formatted, locks_formatted, pages_formatted}
use Rattle.memory.proofs.format_words.Goals as goal

pub list_overflow-head-requires : goal.list_overflow-head-requires
list_overflow-head-requires c =
    let a = c.args in
    can_list (root_sized a.sizes) c.root_of_sizes-root.ensures c.requires (c.fill-2.ensures.after (λ y h. h))

pub returns : goal.returns
returns c =
    let listed = c.list_overflow-head.ensures in
    let made = c.root_of_sizes-root.ensures in
    let a = c.args in
    let s = root_sized a.sizes in
    (c.with_free_list.ensures ∙ root_formatted s made listed.0, locks_formatted s c.requires (c.fill.ensures.after (λ y h. h)), pages_formatted s made listed.1)
