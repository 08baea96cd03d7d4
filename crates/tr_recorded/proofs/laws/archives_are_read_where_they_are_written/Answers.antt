use Rattle.tr_recorded.proofs.PathLemmas.{file_is, folder_is}
use Rattle.tr_recorded.proofs.laws.archives_are_read_where_they_are_written.Goals as goal

pub returns-clause-folders : goal.returns-clause-folders
returns-clause-folders c = folder_is

pub returns-clause-files : goal.returns-clause-files
returns-clause-files c = file_is
