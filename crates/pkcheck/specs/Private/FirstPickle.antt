-- What a check begins with.
use Rattle.std.specs.Prelude.{◌≡◌, []}
use Rattle.pkcheck.specs.Private.Judgement.{SessionView}
use Rattle.pkmachine.specs.View.{fresh}
use Rattle.pkcheck.specs.declared.loading.Loading.{Loading}
use Rattle.pkcheck.specs.declared.row_of_pickles.PickleRow.{PickleRow}

-- nothing was judged yet
pub record HasJudgedNone (session : SessionView) : Type 0 where
  pub frame : session.frame ≡ 0
  pub machine : session.machine ≡ fresh session.machine.old_strings session.machine.limits

-- no pickle has ended yet
pub record HasNoPickle (row : PickleRow) : Type 0 where
  pub pickles : row.pickles ≡ 0
  pub apart : row.apart.asked ≡ []
  pub earlier : row.earlier ≡ 0

-- how a row of pickles is loaded
abbrev pub loading_of : PickleRow → SessionView → Loading
loading_of row session = record {
  memo = row.memo;
  old_strings = session.machine.old_strings;
}
