use Rattle.lang_parse.proofs.NamedTexts.{name_held}
use Rattle.lang_parse.proofs.leaves.name_of.Goals as goal

pub text_of-requires : goal.text_of-requires
text_of-requires c = name_held c.args.token.now.kind c.args.token.now.content c.content.result.now c.requires c.content.ensures.held c.content.ensures.content
