use Rattle.std.proofs.Common.{◌%◌, ◌<◌, ◌≡◌, ℕ, arith}
use Rattle.std.specs.Prelude.{map}
use Rattle.target_pick.specs.Seen.{share_of, total}
use Rattle.target_pick.proofs.Picks.{found_backup, found_none, found_takes, none_of_total, turn_backup, turn_takes}
use Rattle.target_pick.proofs.picking.pick.Goals as goal

pub returns-then-total-eq0-clause-none : goal.returns-then-total-eq0-clause-none
returns-then-total-eq0-clause-none c =
    none_of_total c.args.targets.now c.asks_backups-backups.result c.total_share-total.result c.asks_backups-backups.ensures
    c.total_share-total.ensures c.if-total-eq0.true

pub returns-in-RoundRobin-clause-takes : goal.returns-in-RoundRobin-clause-takes
returns-in-RoundRobin-clause-takes c =
    let slot : ℕ = c.args.turn % c.total_share-total.result in
    let all : c.total_share-total.result ≡ total (map (share_of c.asks_backups-backups.result) c.args.targets.now) =
    c.total_share-total.ensures in
    let within : slot < total (map (share_of c.asks_backups-backups.result) c.args.targets.now) = omega arith in
    turn_takes c.args.targets.now c.asks_backups-backups.result slot c.slot_owner.result c.asks_backups-backups.ensures within
    c.slot_owner.ensures

pub returns-in-RoundRobin-clause-backups : goal.returns-in-RoundRobin-clause-backups
returns-in-RoundRobin-clause-backups c =
    let slot : ℕ = c.args.turn % c.total_share-total.result in
    let all : c.total_share-total.result ≡ total (map (share_of c.asks_backups-backups.result) c.args.targets.now) =
    c.total_share-total.ensures in
    let within : slot < total (map (share_of c.asks_backups-backups.result) c.args.targets.now) = omega arith in
    turn_backup c.args.targets.now c.asks_backups-backups.result slot c.slot_owner.result c.asks_backups-backups.ensures within
    c.slot_owner.ensures

pub returns-in-Source-clause-takes : goal.returns-in-Source-clause-takes
returns-in-Source-clause-takes c =
    let slot : ℕ = c.args.source % c.total_share-total.result in
    let all : c.total_share-total.result ≡ total (map (share_of c.asks_backups-backups.result) c.args.targets.now) =
    c.total_share-total.ensures in
    let within : slot < total (map (share_of c.asks_backups-backups.result) c.args.targets.now) = omega arith in
    turn_takes c.args.targets.now c.asks_backups-backups.result slot c.slot_owner-in-Source.result c.asks_backups-backups.ensures within
    c.slot_owner-in-Source.ensures

pub returns-in-Source-clause-backups : goal.returns-in-Source-clause-backups
returns-in-Source-clause-backups c =
    let slot : ℕ = c.args.source % c.total_share-total.result in
    let all : c.total_share-total.result ≡ total (map (share_of c.asks_backups-backups.result) c.args.targets.now) =
    c.total_share-total.ensures in
    let within : slot < total (map (share_of c.asks_backups-backups.result) c.args.targets.now) = omega arith in
    turn_backup c.args.targets.now c.asks_backups-backups.result slot c.slot_owner-in-Source.result c.asks_backups-backups.ensures within
    c.slot_owner-in-Source.ensures

pub returns-in-First-clause-takes : goal.returns-in-First-clause-takes
returns-in-First-clause-takes c =
    let slot : ℕ = 0 in
    let all : c.total_share-total.result ≡ total (map (share_of c.asks_backups-backups.result) c.args.targets.now) =
    c.total_share-total.ensures in
    let within : slot < total (map (share_of c.asks_backups-backups.result) c.args.targets.now) = omega arith in
    turn_takes c.args.targets.now c.asks_backups-backups.result slot c.slot_owner-in-First.result c.asks_backups-backups.ensures within
    c.slot_owner-in-First.ensures

pub returns-in-First-clause-backups : goal.returns-in-First-clause-backups
returns-in-First-clause-backups c =
    let slot : ℕ = 0 in
    let all : c.total_share-total.result ≡ total (map (share_of c.asks_backups-backups.result) c.args.targets.now) =
    c.total_share-total.ensures in
    let within : slot < total (map (share_of c.asks_backups-backups.result) c.args.targets.now) = omega arith in
    turn_backup c.args.targets.now c.asks_backups-backups.result slot c.slot_owner-in-First.result c.asks_backups-backups.ensures within
    c.slot_owner-in-First.ensures

pub returns-in-LeastConnections-clause-none : goal.returns-in-LeastConnections-clause-none
returns-in-LeastConnections-clause-none c =
    let all : c.total_share-total.result ≡ total (map (share_of c.asks_backups-backups.result) c.args.targets.now) =
    c.total_share-total.ensures in
    let some : 0 < total (map (share_of c.asks_backups-backups.result) c.args.targets.now) = omega arith in
    found_none c.args.targets.now c.asks_backups-backups.result c.least.result some c.least.ensures

pub returns-in-LeastConnections-clause-takes : goal.returns-in-LeastConnections-clause-takes
returns-in-LeastConnections-clause-takes c =
    found_takes c.args.targets.now c.asks_backups-backups.result c.least.result c.asks_backups-backups.ensures c.least.ensures

pub returns-in-LeastConnections-clause-backups : goal.returns-in-LeastConnections-clause-backups
returns-in-LeastConnections-clause-backups c =
    found_backup c.args.targets.now c.asks_backups-backups.result c.least.result c.asks_backups-backups.ensures c.least.ensures
