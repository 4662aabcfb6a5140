-- How a certificate over a list of points is kept.
use Rattle.cert_text.specs.Certificate.{IsCertificate}
use Rattle.certificate_nodes.specs.Gathered.{AreAtNodes, AreUnderNodes}
use Rattle.certificate_nodes.specs.Presented.{PresentedModel}
use Rattle.certificate_nodes.specs.declared.presented.Presented.TheInside.{Inside}
use Rattle.certificate_rules.specs.LineRules.{HeadHolds}
use Rattle.points.specs.Limits.{WithinLimits}

abbrev pub presented_seen : Inside → PresentedModel
presented_seen g = record { points = g.points.now; certificate = g.cert.now }

-- the list is within the limits, line 1 counts it, and what was gathered is that of the certificate
pub record IsGathered (g : Inside) : Type 0 where
  pub within : WithinLimits g.points.now
  pub certificate : IsCertificate g.cert.now
  pub head : HeadHolds g.points.now g.cert.now
  pub at_nodes : AreAtNodes g.points.now g.cert.now g.at_nodes
  pub under_nodes : AreUnderNodes g.points.now g.cert.now g.under_nodes
