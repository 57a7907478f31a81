mod Handles
