-- `Settings::phase` answers the first phase that has not ended, with the ticks until its edge, or out.
use Rattle.timing.proofs.Phases.{first, second, third, fourth, none}
use Rattle.timing.proofs.settings.Settings.phase.Goals as goal

pub returns-then-ticks-self : goal.returns-then-ticks-self
returns-then-ticks-self c =
    first _ _ c.if-ticks-self.true

pub returns-then-after1-self : goal.returns-then-after1-self
returns-then-after1-self c =
    second _ _ c.if-ticks-self.false c.if-after1-self.true

pub returns-then-after2-self : goal.returns-then-after2-self
returns-then-after2-self c =
    third _ _ c.if-ticks-self.false c.if-after1-self.false c.if-after2-self.true

pub returns-then-after3-self : goal.returns-then-after3-self
returns-then-after3-self c =
    fourth _ _ c.if-ticks-self.false c.if-after1-self.false c.if-after2-self.false c.if-after3-self.true

pub returns : goal.returns
returns c =
    none _ _ c.if-ticks-self.false c.if-after1-self.false c.if-after2-self.false c.if-after3-self.false
