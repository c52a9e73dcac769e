-- What an accepted chart has: the facts of its nodes, and that it is sound.
use Rattle.charts.specs.Chart.{Chart}
use Rattle.charts.proofs.Accepted.{SoundChart, sound}
use Rattle.walk.proofs.Facts.{Facts}
use Rattle.walk.proofs.FactsHold.{facts-of}
use Rattle.chart_rows.specs.inner.ChartContracts.{Ready}

module _ {c : Chart} (ready : Ready c) where
  pub ready-sound : SoundChart c
  ready-sound = sound c ready.accepted

  pub ready-facts : Facts c
  ready-facts =
      facts-of c (record { whole = ready.whole; some = ready.some; few = ready.few; sound = ready-sound }) ready.bytes
