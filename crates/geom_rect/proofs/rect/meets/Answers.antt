use Rattle.geom_rect.proofs.Shares.{SharePoint-square}
use Rattle.geom_rect.proofs.rect.meets.Goals as goal

pub returns : goal.returns
returns c =
    let square = SharePoint-square c.args.a c.args.b in
    (λ t. square.0 (c.share_square.ensures.0 t), λ w. c.share_square.ensures.1 (square.1 w))
