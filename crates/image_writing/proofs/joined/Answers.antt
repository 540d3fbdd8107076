-- `image_writing::joined` meets its contract. Assumes nothing.
use mathlib.Core.Path.{◌≡◌, sym, ap, ◌∙◌}
use mathlib.Core.List.{◌++◌}
use Rattle.image_rules.specs.Image.{image_says}
use Rattle.pieces.specs.declared.Pieces.{Pieces}
use Rattle.pieces.specs.Pieces.{start, fed, closed, verdict_says}
use Rattle.image_writing.proofs.Two.{two_pieces, never_open}
use Rattle.image_writing.proofs.joined.Goals as goal

pub returns-in-Good : goal.returns-in-Good
returns-in-Good c =
    let e : c.end-last.result ≡ closed (fed (fed start c.args.contents.now) c.args.bodies.now) = c.end-last.ensures ∙ ap closed (c.feed-both.ensures ∙ ap (λ (q : Pieces). fed q c.args.bodies.now) (c.feed-first.ensures ∙ ap (λ (q : Pieces). fed q c.args.contents.now) c.start.ensures)) in
    let p : image_says (c.args.contents.now ++ c.args.bodies.now) ≡ verdict_says c.end-last.result.verdict = sym (two_pieces c.args.contents.now c.args.bodies.now) ∙ ap (λ (q : Pieces). verdict_says q.verdict) (sym e) in
    sym (p ∙ ap verdict_says c.in-Good.is)

pub returns-in-Bad : goal.returns-in-Bad
returns-in-Bad c =
    let e : c.end-last.result ≡ closed (fed (fed start c.args.contents.now) c.args.bodies.now) = c.end-last.ensures ∙ ap closed (c.feed-both.ensures ∙ ap (λ (q : Pieces). fed q c.args.bodies.now) (c.feed-first.ensures ∙ ap (λ (q : Pieces). fed q c.args.contents.now) c.start.ensures)) in
    let p : image_says (c.args.contents.now ++ c.args.bodies.now) ≡ verdict_says c.end-last.result.verdict = sym (two_pieces c.args.contents.now c.args.bodies.now) ∙ ap (λ (q : Pieces). verdict_says q.verdict) (sym e) in
    sym (p ∙ ap verdict_says c.in-Bad.is)

pub returns-in-Open : goal.returns-in-Open
returns-in-Open c =
    let e : c.end-last.result ≡ closed (fed (fed start c.args.contents.now) c.args.bodies.now) = c.end-last.ensures ∙ ap closed (c.feed-both.ensures ∙ ap (λ (q : Pieces). fed q c.args.bodies.now) (c.feed-first.ensures ∙ ap (λ (q : Pieces). fed q c.args.contents.now) c.start.ensures)) in
    let p : image_says (c.args.contents.now ++ c.args.bodies.now) ≡ verdict_says c.end-last.result.verdict = sym (two_pieces c.args.contents.now c.args.bodies.now) ∙ ap (λ (q : Pieces). verdict_says q.verdict) (sym e) in
    absurd (never_open (c.args.contents.now ++ c.args.bodies.now) (sym (p ∙ ap verdict_says c.in-Open.is)))
