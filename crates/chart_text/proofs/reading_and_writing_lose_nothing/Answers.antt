use Rattle.chart_text.proofs.reading_and_writing_lose_nothing.Goals as goal
use Rattle.chart_text.proofs.RoundTrips.{read-of-write, write-of-read, write-of-capitals, written-capitals}

pub returns-clause-read_of_write : goal.returns-clause-read_of_write
returns-clause-read_of_write c = read-of-write

pub returns-clause-write_of_read : goal.returns-clause-write_of_read
returns-clause-write_of_read c = write-of-read

pub returns-clause-write_of_capitals : goal.returns-clause-write_of_capitals
returns-clause-write_of_capitals c = write-of-capitals

pub returns-clause-written_capitals : goal.returns-clause-written_capitals
returns-clause-written_capitals c = written-capitals
