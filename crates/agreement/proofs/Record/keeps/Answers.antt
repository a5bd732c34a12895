use Rattle.std.proofs.Common.{rules}
use Rattle.agreement.proofs.Judging.{asks_passed, asks_before}
use Rattle.agreement.proofs.Record.keeps.Goals as goal

pub passed_ends-passed-requires : goal.passed_ends-passed-requires
passed_ends-passed-requires c = search (rules, asks_passed)

pub before_end-requires : goal.before_end-requires
before_end-requires c = (asks_before c.args.self c.requires.0 c.args.last c.requires.1.1).1
