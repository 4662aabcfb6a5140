-- What is known of what is presented. Only private contracts cite it.
use Rattle.cert_text.specs.Certificate.{IsCertificate}
use Rattle.certificate_nodes.specs.Presented.{PresentedModel}
use Rattle.certificate_rules.specs.LineRules.{HeadHolds}

-- a certificate whose line 1 counts the points of the list
pub record IsKnown (g : PresentedModel) : Type 0 where
  pub certificate : IsCertificate g.certificate
  pub head : HeadHolds g.points g.certificate
