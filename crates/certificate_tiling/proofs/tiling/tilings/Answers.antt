use Rattle.certificate_tiling.proofs.tiling.tilings.Goals as goal

pub returns-in-Ok-clause-tiled : goal.returns-in-Ok-clause-tiled
returns-in-Ok-clause-tiled c = λ n lt leaf. c.in-Ok.ensures.tells n lt
