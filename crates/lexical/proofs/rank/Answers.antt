-- `lexical::rank` meets its contract: a refusal of packing is passed on. Assumes nothing.
use mathlib.Core.Path.{sym, ap, subst, ◌∙◌}
use lib.ListN.{length}
use Rattle.words.specs.Word.{Word}
use Rattle.answers.specs.Says.{gives, and_then, answer_says}
use Rattle.answers.proofs.Says.{passed_on}
use Rattle.lexicographic.specs.Order.{lex_rank}
use Rattle.lexical.proofs.Given.{packed, rank_by_pack}
use Rattle.lexical.proofs.rank.Goals as goal

pub returns-in_err-x : goal.returns-in_err-x
returns-in_err-x c =
    passed_on c.from_residual.result _ c.from_residual.ensures.1
    ∙ sym (rank_by_pack c.args.family c.args.n c.args.word.now ∙ ap (λ s. and_then s (λ x. gives (lex_rank c.args.family c.args.n c.args.word.now))) (sym c.pack.ensures ∙ ap answer_says c.in_err-x.was))

pub place-requires : goal.place-requires
place-requires c =
    let g = packed c.args.family c.args.n c.args.word.now _ (sym c.pack.ensures ∙ ap answer_says c.in_ok-x.was) in
    (g.0.short, g.0.narrow, subst (Word c.args.family c.args.n (length c.args.word.now)) (sym g.1) g.0.word)

pub returns : goal.returns
returns c =
    let e = sym c.pack.ensures ∙ ap answer_says c.in_ok-x.was in
    ap gives (c.place.ensures ∙ ap (lex_rank c.args.family c.args.n) (packed c.args.family c.args.n c.args.word.now _ e).1)
    ∙ sym (rank_by_pack c.args.family c.args.n c.args.word.now ∙ ap (λ s. and_then s (λ x. gives (lex_rank c.args.family c.args.n c.args.word.now))) (e))
