use Rattle.journal.proofs.record.+read_pages.Given as goal

abbrev pub decreases-read_pages : goal.decreases-read_pages
decreases-read_pages l = l.left
