use Rattle.std.proofs.Common.{sym, ◌∙◌, rules}
use Rattle.words.proofs.lists.Searches.{any-here, any-on, any-over}
use Rattle.image.proofs.HeaderCases.{unequal, equal}
use Rattle.image.proofs.table.filled_to.Goals as goal

pub returns-then-byte-ne0 : goal.returns-then-byte-ne0
returns-then-byte-ne0 c =
    sym (any-here _ _ _ (search rules) (unequal _ _ (λ e. c.if-byte-ne0.true (c.byte.ensures ∙ e))))
    ∙ c.loop-j.invariant.1

pub loop-j-preserved : goal.loop-j-preserved
loop-j-preserved c = (
  search rules,
  sym (any-on _ _ _ (search rules) (equal _ _ (sym c.byte.ensures ∙ c.if-byte-ne0.false)))
      ∙ c.loop-j.invariant.1,
)

pub returns : goal.returns
returns c = sym (any-over _ _ _ (search rules)) ∙ c.loop-j.invariant.1
