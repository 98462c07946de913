mod Readings
mod Records
mod Stages
mod Built
mod WiredRecords
mod WiredStages
mod Wired
