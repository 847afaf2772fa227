mod Crosses
mod Memory
mod Pairs
mod Sharing
mod Steps
mod TwoSteps
